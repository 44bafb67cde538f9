-- Which row a line has, and only that one.
use mathlib.Core.Path.{◌≡◌, sym, subst}
use Prim.Native.Nat.{ℕ}
use native.Mathlib.Omega.{arith}
use Rattle.text.specs.Text.{Text}
use Rattle.syntax.specs.Syntax.{LineOf, patterns, pattern_at, parse}
use Rattle.syntax.proofs.Patterns.{sound, complete}
use Rattle.syntax.proofs.Rows.{row_parse, parsed, missed, delimited_rows}
use Rattle.text_laws.specs.Claims.{SyntaxExact}

pub syntax_exact : (t : Text) → SyntaxExact t
unfolding parse
syntax_exact t =
    record {
      read = λ x e.
          let r = parsed patterns 0 t x e in
          let n : x.row ≡ r.0 = omega arith in
          let line : LineOf (pattern_at r.0) x.values t = sound (pattern_at r.0) t x.values r.3 in
          (omega arith, subst (λ (j : ℕ). LineOf (pattern_at j) x.values t) (sym n) line);
      unread = λ e j vs h l. missed patterns 0 t e j vs h (complete l (delimited_rows j h));
      row = λ j vs h l f.
          row_parse j t vs h (complete l (delimited_rows j h))
          (λ e us q. f (omega arith) us (sound (pattern_at 8) t us q));
    }
