-- What a source answers and means one token on.
use Rattle.std.proofs.Common.{◌≡◌, List, ◌∷◌, sym, ap}
use Rattle.tokens.specs.declared.lexer.LexerToken.{LexerToken}
use Rattle.sources.specs.Source.{Tokens, is_newline, rest_of, mark_of, fresh_of, after}

pub first_after : (k : Tokens) (t : LexerToken) (ts : List LexerToken) → k.rest ≡ t ∷ ts → record { rest = ts; closing = k.closing; seen = t.had_comments; fresh = is_newline t.value } ≡ after k
first_after k t ts e =
    λ i. record { rest = sym (ap rest_of e) i; closing = k.closing; seen = sym (ap (λ l. mark_of l k.seen) e) i; fresh = sym (ap (λ l. fresh_of l k.fresh) e) i }
