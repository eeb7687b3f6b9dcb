-- The laws of a source closed by End, token by token.
use Rattle.std.proofs.Common.{◌≡◌, ℕ, ◌+◌, ◌<◌, Bool, true, false, cond, ◌&&◌, List, [], ◌∷◌, map, length, get_or, drop, sym, refl, ap, ◌∙◌}
use Rattle.std.proofs.lemmas.List.{at_drop_more}
use Rattle.std.proofs.lemmas.Bool.{and_parts, and_from}
use Rattle.tokens.specs.declared.lexer.LexerToken.{LexerToken}
use Rattle.tokens.specs.declared.lexer.LexerTokenValue.{LexerTokenValue}
use Rattle.tokens.specs.declared.lexer.LexerTokenValue.TheVariants as value
use Rattle.tokens.specs.declared.lexer.Closing.{Closing}
use Rattle.tokens.specs.declared.lexer.Closing.TheVariants.{End, Fault}
use Rattle.sources.specs.Source.{Tokens, is_newline, ends_line, ended, starts, stays, after, lawful}
use Rattle.sources.specs.Filed.{begun, follows, numbered, renamed}

-- the laws from a place on: the comments mark so far, and whether the last token was a line end or there was none
abbrev pub keeps : Bool → Bool → List LexerToken → Bool
keeps seen fresh [] = fresh
keeps seen fresh (t ∷ ts) = follows seen fresh t && keeps t.had_comments (is_newline t.value) ts

abbrev ends : Bool → List LexerToken → Bool
ends b [] = b
ends b (t ∷ ts) = ends (is_newline t.value) ts

ends_line_lem : (t : LexerToken) (ts : List LexerToken) → ends_line (t ∷ ts) ≡ ends (is_newline t.value) ts
ends_line_lem t [] = refl
ends_line_lem t (u ∷ us) = ends_line_lem u us

ends_at_first : (ts : List LexerToken) → ends_line ts ≡ ends true ts
ends_at_first [] = refl
ends_at_first (t ∷ ts) = ends_line_lem t ts

regroup : (e a s b m : Bool) → ((a && b) && (e && (s && m))) ≡ (e && ((a && s) && (b && m)))
regroup true true true true m = refl
regroup true true true false m = refl
regroup true true false true m = refl
regroup true true false false m = refl
regroup true false s b m = refl
regroup false true s true m = refl
regroup false true s false m = refl
regroup false false s b m = refl

keeps_are : (seen fresh : Bool) (ts : List LexerToken) → keeps seen fresh ts ≡ (ends fresh ts && (starts fresh ts && stays seen ts))
keeps_are seen true [] = refl
keeps_are seen false [] = refl
keeps_are seen fresh (t ∷ ts) =
    let n = is_newline t.value in
    let a = cond t.start_of_line fresh true in
    let b = cond seen t.had_comments true in
    ap (λ k. (a && b) && k) (keeps_are t.had_comments n ts) ∙ regroup (ends n ts) a (starts n ts) b (stays t.had_comments ts)

pub keeps_lawful : (ts : List LexerToken) → keeps false true ts ≡ lawful (begun ts)
keeps_lawful ts = keeps_are false true ts ∙ ap (λ e. e && (starts true ts && stays false ts)) (sym (ends_at_first ts))

pub keeps_stop : (seen fresh : Bool) (ts : List LexerToken) (i : ℕ) (d : LexerToken) → i < length ts → false ≡ follows seen fresh (get_or ts i d) → false ≡ keeps seen fresh (drop i ts)
keeps_stop seen fresh ts i d h e =
    let t = get_or ts i d in
    ap (λ b. b && keeps t.had_comments (is_newline t.value) (drop (i + 1) ts)) e ∙ sym (at_drop_more (keeps seen fresh) ts i d h)

ended_on : (c : Closing) (t : LexerToken) (ts : List LexerToken) → ended c (t ∷ ts) ≡ true → ended c ts ≡ true
ended_on End t [] e = refl
ended_on End t (u ∷ us) e = e
ended_on (Fault x l) t ts e = refl

lawful_on : (ts : List LexerToken) (c : Closing) (b f : Bool) → lawful (record { rest = ts; closing = c; seen = b; fresh = f }) ≡ true → lawful (after (record { rest = ts; closing = c; seen = b; fresh = f })) ≡ true
lawful_on [] c b f e = e
lawful_on (t ∷ ts) c b f e =
    let p = and_parts (ended c (t ∷ ts)) (starts f (t ∷ ts) && stays b (t ∷ ts)) e in
    let q = and_parts (starts f (t ∷ ts)) (stays b (t ∷ ts)) p.1 in
    let s = and_parts (cond t.start_of_line f true) (starts (is_newline t.value) ts) q.0 in
    let m = and_parts (cond b t.had_comments true) (stays t.had_comments ts) q.1 in
    and_from (ended c ts) (starts (is_newline t.value) ts && stays t.had_comments ts) (ended_on c t ts p.0) (and_from (starts (is_newline t.value) ts) (stays t.had_comments ts) s.1 m.1)

-- a lawful source stays lawful
pub lawful_after : (k : Tokens) → lawful k ≡ true → lawful (after k) ≡ true
lawful_after k e = lawful_on k.rest k.closing k.seen k.fresh e

numbered_line : (is : List ℕ) (v : LexerTokenValue) → is_newline (numbered is v) ≡ is_newline v
numbered_line is (value.Ident i) = refl
numbered_line is (value.Integer n) = refl
numbered_line is (value.Float f) = refl
numbered_line is (value.Punct p) = refl
numbered_line is value.Hash = refl
numbered_line is value.NewLine = refl

renamed_ends : (is : List ℕ) (ts : List LexerToken) → ends_line (map (renamed is) ts) ≡ ends_line ts
renamed_ends is [] = refl
renamed_ends is (t ∷ []) = numbered_line is t.value
renamed_ends is (t ∷ u ∷ us) = renamed_ends is (u ∷ us)

renamed_starts : (is : List ℕ) (b : Bool) (ts : List LexerToken) → starts b (map (renamed is) ts) ≡ starts b ts
renamed_starts is b [] = refl
renamed_starts is b (t ∷ ts) =
    ap (λ n. cond t.start_of_line b true && starts n (map (renamed is) ts)) (numbered_line is t.value) ∙ ap (λ r. cond t.start_of_line b true && r) (renamed_starts is (is_newline t.value) ts)

renamed_stays : (is : List ℕ) (b : Bool) (ts : List LexerToken) → stays b (map (renamed is) ts) ≡ stays b ts
renamed_stays is b [] = refl
renamed_stays is b (t ∷ ts) = ap (λ r. cond b t.had_comments true && r) (renamed_stays is t.had_comments ts)

-- numbers in place of places change no law
pub renamed_lawful : (is : List ℕ) (ts : List LexerToken) → lawful (begun (map (renamed is) ts)) ≡ lawful (begun ts)
renamed_lawful is ts =
    λ i. renamed_ends is ts i && (renamed_starts is true ts i && renamed_stays is false ts i)
