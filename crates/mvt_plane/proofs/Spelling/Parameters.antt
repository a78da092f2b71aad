-- Signed numbers as parameters: the zigzag form back to its number, and which numbers are parameters.
use Rattle.std.proofs.Common.{◌≡◌, ℕ, ◌+◌, ◌*◌, ◌/◌, ◌%◌, ◌<◌, ◌⊎◌, inl, inr, ℤ, pos, negsuc, sym, ◌∙◌, ap, arith}
use Rattle.std.proofs.lemmas.Bool.Decides.{nat_tests}
use Rattle.mvt_plane.specs.Commands.Figure.{zigzag}
use Rattle.mvt_plane.specs.Commands.Drawing.{unzigzag}

-- it is half of an even parameter, and below zero for an odd one
pub unzigzag_even : (k : ℕ) → unzigzag (2 * k) ≡ pos k
unzigzag_even k = grind (arith, nat_tests)

pub unzigzag_odd : (k : ℕ) → unzigzag (2 * k + 1) ≡ negsuc k
unzigzag_odd k = grind (arith, nat_tests)

-- the two undo each other
pub unzigzag-zigzag : (d : ℤ) → unzigzag (zigzag d) ≡ d
unzigzag-zigzag (pos k) = unzigzag_even k
unzigzag-zigzag (negsuc k) = unzigzag_odd k

-- a parameter is an even number, or an odd one
pub parity : (n : ℕ) → ((k : ℕ) × (n ≡ 2 * k)) ⊎ ((k : ℕ) × (n ≡ 2 * k + 1))
parity n = elim (even_or_odd (n % 2) (omega arith)) [
  | inl even ↦ inl (n / 2, omega arith)
  | inr odd ↦ inr (n / 2, omega arith)
]
  where
    even_or_odd : (r : ℕ) → r < 2 → (r ≡ 0) ⊎ (r ≡ 1)
    even_or_odd r small = grind arith

pub zigzag-unzigzag : (n : ℕ) → zigzag (unzigzag n) ≡ n
zigzag-unzigzag n = elim (parity n) [
  | inl even ↦ ap (λ (m : ℕ). zigzag (unzigzag m)) even.1 ∙ ap zigzag (unzigzag_even even.0) ∙ sym even.1
  | inr odd ↦ ap (λ (m : ℕ). zigzag (unzigzag m)) odd.1 ∙ ap zigzag (unzigzag_odd odd.0) ∙ sym odd.1
]

-- no two numbers have one zigzag form
pub zigzag_injective : (d e : ℤ) → zigzag d ≡ zigzag e → d ≡ e
zigzag_injective d e same = sym (unzigzag-zigzag d) ∙ ap unzigzag same ∙ unzigzag-zigzag e
