-- How a reader gets on with the steps of a figure.
use Rattle.std.proofs.Common.{◌≡◌, ℕ, zero, suc, ◌+◌, List, [], ◌∷◌, ◌++◌, length, drop, get_or, ap, sym, ◌∙◌, subst, refl, append_assoc, arith}
use Rattle.mvt_plane.specs.Commands.Figure.{steps, cursor, AreSteps}
use Rattle.mvt_plane.specs.Position.{Position}
use Rattle.mvt_plane.specs.Commands.Course.{Course, IsStepAhead}

-- A step

-- the number at a place, and those after it
one_at : (at : ℕ) (numbers : List ℕ) (n : ℕ) (rest : List ℕ) → drop at numbers ≡ n ∷ rest → (get_or numbers at 0 ≡ n) × (drop (suc at) numbers ≡ rest)
one_at zero numbers n rest stands = (ap (λ (it : List ℕ). get_or it 0 0) stands, ap (λ (it : List ℕ). drop 1 it) stands)
one_at (suc at) [] n rest stands = cc
one_at (suc at) (m ∷ numbers) n rest stands = one_at at numbers n rest stands

-- the same, with places as sums
pub one_ahead : (at : ℕ) (numbers : List ℕ) (n : ℕ) (rest : List ℕ) → drop at numbers ≡ n ∷ rest → (get_or numbers at 0 ≡ n) × (drop (at + 1) numbers ≡ rest)
one_ahead at numbers n rest stands =
    let there = one_at at numbers n rest stands in
    let one : at + 1 ≡ suc at = omega arith in (there.0, ap (λ (place : ℕ). drop place numbers) one ∙ there.1)

-- two numbers, with places as sums
pub two_ahead : (at : ℕ) (numbers : List ℕ) (x y : ℕ) (rest : List ℕ) → drop at numbers ≡ x ∷ y ∷ rest
    → (get_or numbers at 0 ≡ x) × (get_or numbers (at + 1) 0 ≡ y) × (drop (at + 2) numbers ≡ rest)
two_ahead at numbers x y rest stands =
    let first = one_ahead at numbers x (y ∷ rest) stands in
    let second = one_ahead (at + 1) numbers y rest first.1 in
    let two : at + 2 ≡ at + 1 + 1 = omega arith in (first.0, second.0, ap (λ (place : ℕ). drop place numbers) two ∙ second.1)

-- A run: the steps of one command

-- of the steps of a run, those through these positions are ahead, and the others are drawn
pub record IsAmidRun (before : List Position) (start : Course) (positions : List Position) (rest : List ℕ) (drawn : List Position) (now : Course) (left : ℕ) : Type 0 where
  pub ahead : List Position
  pub able : AreSteps now.here ahead
  pub stands : now.left ≡ steps now.here ahead ++ rest
  pub so_many : length ahead ≡ left
  pub end : cursor now.here ahead ≡ cursor start.here positions
  pub whole : drawn ++ ahead ≡ before ++ positions

-- after it, one more is drawn
pub IsAmidRun-more : (before : List Position) (start : Course) (positions : List Position) (rest : List ℕ) (drawn : List Position) (now new : Course) (to : Position) (left : ℕ)
    → IsAmidRun before start positions rest drawn now (left + 1)
    → ((goal : Position) (more : List ℕ) → IsStepAhead now goal more → (to ≡ goal) × (new ≡ record { here = goal; left = more }))
    → IsAmidRun before start positions rest (drawn ++ to ∷ []) new left
IsAmidRun-more before start positions rest drawn now new to left amid told = from amid.ahead amid.able amid.stands amid.so_many amid.end amid.whole
  where
    from : (ahead : List Position) → AreSteps now.here ahead → now.left ≡ steps now.here ahead ++ rest → length ahead ≡ left + 1
        → cursor now.here ahead ≡ cursor start.here positions → drawn ++ ahead ≡ before ++ positions → IsAmidRun before start positions rest (drawn ++ to ∷ []) new left
    from [] able stands so_many end whole = absurd (omega arith)
    from (next ∷ ahead) able stands so_many end whole =
        let there = told next (steps next ahead ++ rest) (record { able = able.0; stands = stands }) in
        let fewer : length ahead ≡ left = omega arith in
        subst (λ (it : Course). IsAmidRun before start positions rest (drawn ++ to ∷ []) it left) (sym there.1) (record {
          ahead = ahead;
          able = able.1;
          stands = refl;
          so_many = fewer;
          end = end;
          whole = append_assoc drawn (to ∷ []) ahead ∙ (ap (λ (it : Position). drawn ++ it ∷ ahead) there.0 ∙ whole);
        })
