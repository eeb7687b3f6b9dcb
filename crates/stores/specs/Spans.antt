-- nowhere: the empty part; onward s: what is left of a part once its first token is read; passed o s: the same, where o is that token if there is one
use Rattle.std.specs.Prelude.{◌+◌, cond, Some, None, Option, nat_lt}
use Rattle.tokens.specs.declared.token.Token.{Token}
use Rattle.stores.specs.declared.span.Span.{Span}

abbrev pub nowhere : Span
nowhere = record { from = 0; to = 0 }

abbrev pub onward : Span → Span
onward s = cond (nat_lt s.from s.to) (record { from = s.from + 1; to = s.to }) s

abbrev pub passed : Option Token → Span → Span
passed (Some x) s = onward s
passed None s = s
