-- What a source means, and the laws of every source.
-- Tokens: the tokens to come, what closes them, the comments mark of the last delivered token, and whether the next token may be marked line start
-- read k: what `next` answers; after k: what the source means after that
-- is_newline v: a line end; ends_line ts: the list is empty or ends with a line end, ended c ts: if it is closed by End
-- starts may ts: only the first token, if it may, and those after a line end are marked line start
-- stays b ts: the comments mark, b at first, never returns to no; lawful k: all three laws
use Rattle.std.specs.Prelude.{Bool, true, false, cond, ◌&&◌, List, [], ◌∷◌, Ok, Err, Result}
use Rattle.tokens.specs.declared.lexer.LexerTokenValue.{LexerTokenValue}
use Rattle.tokens.specs.declared.lexer.LexerTokenValue.TheVariants as value
use Rattle.tokens.specs.declared.lexer.LexerToken.{LexerToken}
use Rattle.tokens.specs.declared.lexer.Closing.{Closing}
use Rattle.tokens.specs.declared.lexer.Closing.TheVariants.{End, Fault}

pub record Tokens : Type 0 where
  pub rest : List LexerToken
  pub closing : Closing
  pub seen : Bool
  pub fresh : Bool

abbrev pub is_newline : LexerTokenValue → Bool
is_newline (value.Ident n) = false
is_newline (value.Integer n) = false
is_newline (value.Float f) = false
is_newline (value.Punct p) = false
is_newline value.Hash = false
is_newline value.NewLine = true

abbrev pub first : List LexerToken → Closing → Result LexerToken Closing
first [] c = Err c
first (t ∷ ts) c = Ok t

abbrev pub rest_of : List LexerToken → List LexerToken
rest_of [] = []
rest_of (t ∷ ts) = ts

abbrev pub mark_of : List LexerToken → Bool → Bool
mark_of [] b = b
mark_of (t ∷ ts) b = t.had_comments

abbrev pub fresh_of : List LexerToken → Bool → Bool
fresh_of [] b = b
fresh_of (t ∷ ts) b = is_newline t.value

abbrev pub read : Tokens → Result LexerToken Closing
read k = first k.rest k.closing

abbrev pub after : Tokens → Tokens
after k = record { rest = rest_of k.rest; closing = k.closing; seen = mark_of k.rest k.seen; fresh = fresh_of k.rest k.fresh }

abbrev pub ends_line : List LexerToken → Bool
ends_line [] = true
ends_line (t ∷ []) = is_newline t.value
ends_line (t ∷ u ∷ ts) = ends_line (u ∷ ts)

abbrev pub ended : Closing → List LexerToken → Bool
ended End ts = ends_line ts
ended (Fault e l) ts = true

abbrev pub starts : Bool → List LexerToken → Bool
starts may [] = true
starts may (t ∷ ts) = cond t.start_of_line may true && starts (is_newline t.value) ts

abbrev pub stays : Bool → List LexerToken → Bool
stays b [] = true
stays b (t ∷ ts) = cond b t.had_comments true && stays t.had_comments ts

abbrev pub lawful : Tokens → Bool
lawful k = ended k.closing k.rest && (starts k.fresh k.rest && stays k.seen k.rest)
