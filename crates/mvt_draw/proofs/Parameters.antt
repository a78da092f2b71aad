-- What the parameters of a step say of coordinates.
use Rattle.std.proofs.Common.{◌≡◌, ℕ, ℤ, pos, negsuc, ap, sym, ◌∙◌}
use Rattle.mvt_plane.proofs.Spelling.Parameters.{unzigzag-zigzag}
use Rattle.mvt_plane.specs.Commands.Drawing.{unzigzag}
use Rattle.mvt_plane.specs.Position.{Position}
use Rattle.mvt_wire.specs.Number as wire

-- the position with these coordinates
pub same_position : (to : Position) (x y : ℤ) → x ≡ to.x → y ≡ to.y → record { x = x; y = y } ≡ to
same_position to x y same_x same_y = λ i. record { x = same_x i; y = same_y i }

-- the number that a parameter means, in the words of mvt_wire
pub unzigzag_wire : (z : ℤ) (n : ℕ) → wire.zigzag z ≡ n → z ≡ unzigzag n
unzigzag_wire (pos k) n same = sym (unzigzag-zigzag (pos k)) ∙ ap unzigzag same
unzigzag_wire (negsuc k) n same = sym (unzigzag-zigzag (negsuc k)) ∙ ap unzigzag same
