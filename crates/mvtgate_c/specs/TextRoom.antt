-- How long the text of a fault can be.
use Rattle.std.specs.Prelude.{ℕ}

-- the bytes of the longest text of a fault: two edges that meet, each number with all its digits and, where it can have one, a sign
abbrev pub longest_text : ℕ
longest_text = 377
