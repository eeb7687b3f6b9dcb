-- The parts of a token file's bytes bs, as its counts and lengths say.
-- lens_of ls: the lengths in the bytes ls, 2 bytes each; fit n: a name has 1 to 1,024 bytes
-- length_bytes bs, text_bytes bs, record_bytes bs: the bytes of the lengths, of the names, and of the tokens; name_lens bs: the lengths
-- shaped bs: the file is as long as its counts and lengths say
-- cut ns ts: the bytes ts cut into names of the lengths ns; file_names bs: the names; file_tokens bs: the tokens, none where a field is out of range
use Rattle.std.specs.Prelude.{ℕ, ◌+◌, ◌*◌, ◌/◌, Bool, false, cond, ◌&&◌, List, [], ◌∷◌, map, length, take, drop, Option, ◌==◌, nat_le, sum}
use Rattle.std.specs.Simd.{first_chunks}
use Rattle.tokens.specs.declared.lexer.LexerToken.{LexerToken}
use Rattle.sources.specs.Bytes.{two, four}
use Rattle.sources.specs.Fields.{tokens_of}

abbrev pub len_of : List ℕ → ℕ
len_of b = two b 0

abbrev pub lens_of : List ℕ → List ℕ
lens_of ls = map len_of (first_chunks 2 (length ls / 2) ls)

abbrev pub fit : ℕ → Bool
fit n = cond (n == 0) false (nat_le n 1024)

abbrev pub length_bytes : List ℕ → List ℕ
length_bytes bs = take (2 * four bs 0) (drop 8 bs)

abbrev pub bodies : List ℕ → List ℕ
bodies bs = drop (2 * four bs 0) (drop 8 bs)

abbrev pub name_lens : List ℕ → List ℕ
name_lens bs = lens_of (length_bytes bs)

abbrev pub text_bytes : List ℕ → List ℕ
text_bytes bs = take (sum (name_lens bs)) (bodies bs)

abbrev pub record_bytes : List ℕ → List ℕ
record_bytes bs = drop (sum (name_lens bs)) (bodies bs)

abbrev pub shaped : List ℕ → Bool
shaped bs =
    nat_le 8 (length bs) && (nat_le (2 * four bs 0) (length (drop 8 bs)) && length (bodies bs) == sum (name_lens bs) + 24 * four bs 4)

abbrev pub cut : List ℕ → List ℕ → List (List ℕ)
cut [] ts = []
cut (n ∷ ns) ts = take n ts ∷ cut ns (drop n ts)

abbrev pub file_names : List ℕ → List (List ℕ)
file_names bs = cut (name_lens bs) (text_bytes bs)

abbrev pub file_tokens : List ℕ → Option (List LexerToken)
file_tokens bs = tokens_of (four bs 0) (first_chunks 24 (four bs 4) (record_bytes bs))
