-- How a reader gets on with the lines or rings of a figure.
use Rattle.std.proofs.Common.{◌≡◌, ℕ, ◌<◌, Bool, List, [], ◌∷◌, ◌++◌, length, ap, sym, ◌∙◌, subst, append_assoc, append-nil}
use Rattle.mvt_plane.specs.Commands.Figure.{cursor}
use Rattle.mvt_plane.specs.Position.{Position}
use Rattle.mvt_plane.specs.Commands.Course.{Course, IsPathAhead, ArePathsAhead, ending_of}
use Rattle.mvt_plane.proofs.Spelling.Courses.{next_path, no_path}

-- of the lines or rings, these are ahead of the reader, and those before them are drawn
pub record IsAmidPaths (closed : Bool) (parts : List (List Position)) (drawn : List (List Position)) (now : Course) : Type 0 where
  pub ahead : List (List Position)
  pub left : ArePathsAhead now closed ahead
  pub whole : drawn ++ ahead ≡ parts

-- whichever of them is next, one more is drawn after it
pub IsAmidPaths-next : (closed : Bool) (parts drawn after : List (List Position)) (now new : Course) → IsAmidPaths closed parts drawn now → 0 < length now.left
    → ((part : List Position) (rest : List ℕ) → IsPathAhead now part (ending_of closed ++ rest) → (after ≡ drawn ++ part ∷ []) × (new ≡ record { here = cursor now.here part; left = rest }))
    → IsAmidPaths closed parts after new
IsAmidPaths-next closed parts drawn after now new amid some told =
    let next = next_path now closed amid.ahead amid.left some in
    let there = told next.part next.left next.first in
    record {
      ahead = next.more;
      left = subst (λ (it : Course). ArePathsAhead it closed next.more) (sym there.1) next.further;
      whole = ap (λ (it : List (List Position)). it ++ next.more) there.0 ∙ (append_assoc drawn (next.part ∷ []) next.more
          ∙ (ap (λ (it : List (List Position)). drawn ++ it) next.whole ∙ amid.whole));
    }

-- with no number left, all are drawn
pub IsAmidPaths-over : (closed : Bool) (parts drawn : List (List Position)) (now : Course) → IsAmidPaths closed parts drawn now → length now.left ≡ 0 → drawn ≡ parts
IsAmidPaths-over closed parts drawn now amid none =
    sym (append-nil drawn) ∙ (ap (λ (it : List (List Position)). drawn ++ it) (sym (no_path now closed amid.ahead amid.left none)) ∙ amid.whole)
