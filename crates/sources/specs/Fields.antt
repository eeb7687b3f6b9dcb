-- What a token's fields mean, in a file with n names.
-- value_of n r: the value by kind (0 name, 1 integer, 2 float, 3 punctuation, 4 hash, 5 line end), none where a field is out of range
-- decoded_token n r: the token, with the marks 1 whitespace before, 2 line start, 4 comments seen; a name is the place of its bytes in the file
-- tokens_of n bs: all tokens, none where one of them is none
-- Decoded r o: what decoding answers where the tokens are o, unless memory fails
use Rattle.std.specs.Prelude.{◌≡◌, ℕ, ◌/◌, ◌%◌, Bool, cond, ◌&&◌, ◌⊎◌, List, [], ◌∷◌, Some, None, Ok, Err, vec_items, Option, Result, Vec, ◌==◌, nat_le, nat_lt}
use Rattle.std.specs.declared.alloc.Global.{Global}
use Rattle.tokens.specs.declared.fault.Refusal.{Refusal}
use Rattle.tokens.specs.declared.fault.Refusal.TheVariants.{BadFile, Memory}
use Rattle.tokens.specs.declared.punct.Punct.{Punct}
use Rattle.tokens.specs.declared.lexer.LexerTokenValue.{LexerTokenValue}
use Rattle.tokens.specs.declared.lexer.LexerTokenValue.TheVariants as value
use Rattle.tokens.specs.declared.lexer.LexerToken.{LexerToken}
use Rattle.tokens.specs.Puncts.{punct_numbered}
use Rattle.sources.specs.declared.file.raw.Raw.{Raw}
use Rattle.sources.specs.Bytes.{raw_of}

-- no mark of an integer's, and no width
abbrev pub plain : Raw → Bool
plain r = nat_lt r.marks 8 && r.width == 0

abbrev pub when : {A : Type 0} → Bool → A → Option A
when b x = cond b (Some x) None

abbrev pub punctuation : Option Punct → Option LexerTokenValue
punctuation None = None
punctuation (Some p) = Some (value.Punct p)

abbrev pub value_of : ℕ → Raw → Option LexerTokenValue
value_of n r =
    cond (r.kind == 0) (when (plain r && nat_lt r.value n) (value.Ident r.value))
    (cond (r.kind == 1) (when (nat_lt r.marks 16) (value.Integer (record { value = r.value; signed = nat_le 8 r.marks; width = r.width })))
    (cond (r.kind == 2) (when (nat_lt r.marks 8 && nat_lt r.value 4294967296) (value.Float (record { bits = r.value; width = r.width })))
    (cond (r.kind == 3) (cond (plain r && nat_lt r.value 45) (punctuation (punct_numbered r.value)) None)
    (cond (r.kind == 4) (when (plain r && r.value == 0) value.Hash)
    (cond (r.kind == 5) (when (plain r && r.value == 0) value.NewLine) None)))))

abbrev pub placed : Raw → Option LexerTokenValue → Option LexerToken
placed r None = None
placed r (Some v) =
    Some (record { value = v; location = record { start = r.start; end = r.end; line = r.line }; leading_whitespace = (r.marks % 2 == 1); start_of_line = (r.marks / 2 % 2 == 1); had_comments = (r.marks / 4 % 2 == 1) })

abbrev pub decoded_token : ℕ → Raw → Option LexerToken
decoded_token n r = placed r (value_of n r)

abbrev pub together : {A : Type 0} → Option A → Option (List A) → Option (List A)
together None o = None
together (Some t) None = None
together (Some t) (Some ts) = Some (t ∷ ts)

abbrev pub tokens_of : ℕ → List (List ℕ) → Option (List LexerToken)
tokens_of n [] = Some []
tokens_of n (b ∷ bs) = together (decoded_token n (raw_of b)) (tokens_of n bs)

abbrev pub Decoded : Result (Vec LexerToken Global) Refusal → Option (List LexerToken) → Type 0
Decoded (Ok v) o = o ≡ Some (vec_items v)
Decoded (Err e) o = (e ≡ Memory) ⊎ ((e ≡ BadFile) × (o ≡ None))
