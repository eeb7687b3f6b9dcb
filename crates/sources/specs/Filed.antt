-- What a token file means.
-- begun ts: what a source over the tokens ts, closed by End, means at first
-- follows seen fresh t: the marks of t are lawful where seen is the comments mark so far, and fresh whether a line may start here
-- renamed is t: t with the place of a name in the file replaced by its number, which stands there in is
-- to_come ts is last: what a source means that has yet to deliver the tokens ts, and delivered last as the last
-- filed ns bs: what the file's bytes bs mean with a table that holds the names ns, or why the file is refused; the tests come in this order
use Rattle.std.specs.Prelude.{ℕ, Bool, true, false, cond, ◌&&◌, List, map, length, Some, None, Ok, Err, Option, Result, nat_le, slice_index}
use Rattle.std.specs.List.{list_all}
use Rattle.tokens.specs.declared.fault.Refusal.{Refusal}
use Rattle.tokens.specs.declared.fault.Refusal.TheVariants.{NameLength, BadFile}
use Rattle.tokens.specs.declared.lexer.LexerTokenValue.{LexerTokenValue}
use Rattle.tokens.specs.declared.lexer.LexerTokenValue.TheVariants as value
use Rattle.tokens.specs.declared.lexer.LexerToken.{LexerToken}
use Rattle.tokens.specs.declared.lexer.Closing.TheVariants.{End}
use Rattle.sources.specs.Source.{Tokens, lawful}
use Rattle.sources.specs.Mending.{seen_behind, fresh_behind}
use Rattle.sources.specs.Contents.{shaped, fit, name_lens, file_names, file_tokens}
use Rattle.sources.specs.Entering.{numbers_of}

abbrev pub begun : List LexerToken → Tokens
begun ts = record { rest = ts; closing = End; seen = false; fresh = true }

abbrev pub follows : Bool → Bool → LexerToken → Bool
follows seen fresh t = cond t.start_of_line fresh true && cond seen t.had_comments true

abbrev pub numbered : List ℕ → LexerTokenValue → LexerTokenValue
numbered is (value.Ident i) = value.Ident (slice_index is i)
numbered is (value.Integer n) = value.Integer n
numbered is (value.Float f) = value.Float f
numbered is (value.Punct p) = value.Punct p
numbered is value.Hash = value.Hash
numbered is value.NewLine = value.NewLine

abbrev pub renamed : List ℕ → LexerToken → LexerToken
renamed is t =
    record { value = numbered is t.value; location = t.location; leading_whitespace = t.leading_whitespace; start_of_line = t.start_of_line; had_comments = t.had_comments }

abbrev pub to_come : List LexerToken → List ℕ → Option LexerToken → Tokens
to_come ts is last = record { rest = map (renamed is) ts; closing = End; seen = seen_behind last; fresh = fresh_behind last }

abbrev pub entered : List LexerToken → Result (List ℕ) Refusal → Result Tokens Refusal
entered ts (Ok is) = Ok (begun (map (renamed is) ts))
entered ts (Err e) = Err e

abbrev pub named : List (List ℕ) → List ℕ → List LexerToken → Result Tokens Refusal
named ns bs ts = cond (list_all fit (name_lens bs)) (entered ts (numbers_of ns (file_names bs))) (Err NameLength)

abbrev pub checked : List (List ℕ) → List ℕ → Option (List LexerToken) → Result Tokens Refusal
checked ns bs None = Err BadFile
checked ns bs (Some ts) = cond (lawful (begun ts)) (named ns bs ts) (Err BadFile)

abbrev pub filed : List (List ℕ) → List ℕ → Result Tokens Refusal
filed ns bs = cond (nat_le (length bs) 65536 && shaped bs) (checked ns bs (file_tokens bs)) (Err BadFile)
