-- How a list of records becomes a lawful list of tokens. Each definition goes by the last token that was delivered, if there was one.
-- seen_behind last: its comments mark; fresh_behind last: whether the next token may be marked line start
-- mend last t: t as it is delivered, a line start mark against the laws cleared, and a comments mark kept once it was seen
-- missing last c: the line end that is missing before End, at the last token's end and line
-- mended last c ts: the tokens that the records ts and the closing c give
-- mended_ended, mended_starts, mended_stays: they keep the laws of a source
use Rattle.std.specs.Prelude.{◌≡◌, Bool, true, false, cond, ◌&&◌, ◌||◌, List, [], ◌∷◌, Some, None, Option, refl}
use Rattle.tokens.specs.declared.lexer.LexerTokenValue.TheVariants.{NewLine}
use Rattle.tokens.specs.declared.lexer.LexerToken.{LexerToken}
use Rattle.tokens.specs.declared.lexer.Closing.{Closing}
use Rattle.tokens.specs.declared.lexer.Closing.TheVariants.{End, Fault}
use Rattle.sources.specs.Source.{is_newline, ends_line, ended, starts, stays}

abbrev pub seen_behind : Option LexerToken → Bool
seen_behind None = false
seen_behind (Some t) = t.had_comments

abbrev pub fresh_behind : Option LexerToken → Bool
fresh_behind None = true
fresh_behind (Some t) = is_newline t.value

abbrev pub mend : Option LexerToken → LexerToken → LexerToken
mend last t =
    record { value = t.value; location = t.location; leading_whitespace = t.leading_whitespace; start_of_line = t.start_of_line && fresh_behind last; had_comments = t.had_comments || seen_behind last }

abbrev pub line_end : LexerToken → LexerToken
line_end t =
    record { value = NewLine; location = record { start = t.location.end; end = t.location.end; line = t.location.line }; leading_whitespace = false; start_of_line = false; had_comments = t.had_comments }

abbrev pub missing : Option LexerToken → Closing → Option LexerToken
missing None c = None
missing (Some t) End = cond (is_newline t.value) None (Some (line_end t))
missing (Some t) (Fault e l) = None

abbrev pub supplied : Option LexerToken → List LexerToken
supplied None = []
supplied (Some t) = t ∷ []

abbrev pub mended : Option LexerToken → Closing → List LexerToken → List LexerToken
mended last c [] = supplied (missing last c)
mended last c (t ∷ ts) = mend last t ∷ mended (Some (mend last t)) c ts

both : (a b : Bool) → a ≡ true → b ≡ true → (a && b) ≡ true
both true b e f = f
both false b e f = e

missing_starts : (last : Option LexerToken) (c : Closing) → starts (fresh_behind last) (supplied (missing last c)) ≡ true
missing_starts None c = refl
missing_starts (Some t) End = tested (is_newline t.value)
  where
    tested : (b : Bool) → starts (is_newline t.value) (supplied (cond b None (Some (line_end t)))) ≡ true
    tested true = refl
    tested false = refl
missing_starts (Some t) (Fault e l) = refl

missing_stays : (last : Option LexerToken) (c : Closing) → stays (seen_behind last) (supplied (missing last c)) ≡ true
missing_stays None c = refl
missing_stays (Some t) End = tested (is_newline t.value)
  where
    seen : (b : Bool) → (cond b b true && true) ≡ true
    seen true = refl
    seen false = refl

    tested : (b : Bool) → stays t.had_comments (supplied (cond b None (Some (line_end t)))) ≡ true
    tested true = refl
    tested false = seen t.had_comments
missing_stays (Some t) (Fault e l) = refl

missing_ended : (last : Option LexerToken) → ends_line (supplied (missing last End)) ≡ true
missing_ended None = refl
missing_ended (Some t) = tested (is_newline t.value)
  where
    tested : (b : Bool) → ends_line (supplied (cond b None (Some (line_end t)))) ≡ true
    tested true = refl
    tested false = refl

last_ended : (t : LexerToken) (b : Bool) → is_newline t.value ≡ b → ends_line (t ∷ supplied (cond b None (Some (line_end t)))) ≡ true
last_ended t true e = e
last_ended t false e = refl

start_kept : (a may : Bool) → cond (a && may) may true ≡ true
start_kept true true = refl
start_kept true false = refl
start_kept false may = refl

mark_kept : (a b : Bool) → cond b (a || b) true ≡ true
mark_kept true true = refl
mark_kept true false = refl
mark_kept false true = refl
mark_kept false false = refl

pub mended_starts : (last : Option LexerToken) (c : Closing) (ts : List LexerToken) → starts (fresh_behind last) (mended last c ts) ≡ true
mended_starts last c [] = missing_starts last c
mended_starts last c (t ∷ ts) = both _ _ (start_kept t.start_of_line (fresh_behind last)) (mended_starts (Some (mend last t)) c ts)

pub mended_stays : (last : Option LexerToken) (c : Closing) (ts : List LexerToken) → stays (seen_behind last) (mended last c ts) ≡ true
mended_stays last c [] = missing_stays last c
mended_stays last c (t ∷ ts) = both _ _ (mark_kept t.had_comments (seen_behind last)) (mended_stays (Some (mend last t)) c ts)

more_ended : (last : Option LexerToken) (t : LexerToken) (ts : List LexerToken) → ends_line (mended last End (t ∷ ts)) ≡ true
more_ended last t [] = last_ended (mend last t) (is_newline t.value) refl
more_ended last t (u ∷ us) = more_ended (Some (mend last t)) u us

pub mended_ended : (last : Option LexerToken) (c : Closing) (ts : List LexerToken) → ended c (mended last c ts) ≡ true
mended_ended last End [] = missing_ended last
mended_ended last End (t ∷ ts) = more_ended last t ts
mended_ended last (Fault e l) ts = refl
