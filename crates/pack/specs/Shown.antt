-- The line of a text that is shown where the text is refused.
use Rattle.std.specs.Prelude.{ℕ, zero, suc, ◌+◌, length, take, drop, min}
use Rattle.text.specs.Text.{Text, line_length}

-- where a line starts, counted from 0: behind the line before and its line feed, or at the text's end
unfoldable pub line_start : ℕ → Text → ℕ
line_start zero text = 0
line_start (suc k) text = let at = line_start k text in min (length text) (at + line_length (drop at text) + 1)

-- its bytes, with no line feed; none if the text has fewer lines
abbrev pub line_of : ℕ → Text → Text
line_of k text = let rest = drop (line_start k text) text in take (line_length rest) rest
