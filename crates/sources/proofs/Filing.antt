-- What a token file means, test by test.
use Rattle.std.proofs.Common.{◌≡◌, ℕ, ◌+◌, ◌-◌, ◌*◌, ◌/◌, ◌≤◌, true, cond, ◌&&◌, eqb, leb, List, length, drop, sum, Some, Err, ap, ◌∙◌, arith}
use Rattle.std.specs.Simd.{first_chunks}
use Rattle.std.specs.List.{list_all}
use Rattle.std.proofs.lemmas.List.{length-drop}
use Rattle.std.proofs.lemmas.Bool.{and_parts, and_from, eqb-true, le-leb}
use Rattle.tokens.specs.declared.fault.Refusal.TheVariants.{NameLength, BadFile}
use Rattle.tokens.specs.declared.lexer.LexerToken.{LexerToken}
use Rattle.sources.specs.Source.{lawful}
use Rattle.sources.specs.Bytes.{four}
use Rattle.sources.specs.Fields.{tokens_of}
use Rattle.sources.specs.Contents.{fit, bodies, name_lens, record_bytes, shaped, file_names, file_tokens}
use Rattle.sources.specs.Entering.{numbers_of}
use Rattle.sources.specs.Filed.{begun, entered, named, checked, filed}

record_count : (bs : List ℕ) → shaped bs ≡ true → length (record_bytes bs) / 24 ≡ four bs 4
record_count bs s =
    let p = and_parts (leb 8 (length bs)) (leb (2 * four bs 0) (length (drop 8 bs)) && eqb (length (bodies bs)) (sum (name_lens bs) + 24 * four bs 4)) s in
    let q = and_parts (leb (2 * four bs 0) (length (drop 8 bs))) (eqb (length (bodies bs)) (sum (name_lens bs) + 24 * four bs 4)) p.1 in
    count (length (bodies bs)) (sum (name_lens bs)) (four bs 4) (length (record_bytes bs)) (eqb-true (length (bodies bs)) (sum (name_lens bs) + 24 * four bs 4) q.1) (length-drop (sum (name_lens bs)) (bodies bs))
  where
    count : (b t m r : ℕ) → b ≡ t + 24 * m → r ≡ b - t → r / 24 ≡ m
    count b t m r e f = omega arith

-- the tokens in the bytes rs of a file with n names
pub file_tokens_lem : (bs rs : List ℕ) (n : ℕ) → shaped bs ≡ true → rs ≡ record_bytes bs → n ≡ four bs 0 → tokens_of n (first_chunks 24 (length rs / 24) rs) ≡ file_tokens bs
file_tokens_lem bs rs n s e f =
    (λ i. tokens_of (f i) (first_chunks 24 (length (e i) / 24) (e i))) ∙ ap (λ m. tokens_of (four bs 0) (first_chunks 24 m (record_bytes bs))) (record_count bs s)

module _ (ns : List (List ℕ)) (bs : List ℕ) (size : length bs ≤ 65536) (s : shaped bs ≡ true) where
  read : filed ns bs ≡ checked ns bs (file_tokens bs)
  read = ap (λ b. cond b (checked ns bs (file_tokens bs)) (Err BadFile)) (and_from (leb (length bs) 65536) (shaped bs) (le-leb (length bs) 65536 size) s)

  module _ (ts : List LexerToken) (e : file_tokens bs ≡ Some ts) where
    tested : filed ns bs ≡ cond (lawful (begun ts)) (named ns bs ts) (Err BadFile)
    tested = read ∙ ap (checked ns bs) e

    lengths : lawful (begun ts) ≡ true → filed ns bs ≡ named ns bs ts
    lengths l = tested ∙ ap (λ b. cond b (named ns bs ts) (Err BadFile)) l

    pub all_tested : lawful (begun ts) ≡ true → list_all fit (name_lens bs) ≡ true → filed ns bs ≡ entered ts (numbers_of ns (file_names bs))
    all_tested l a = lengths l ∙ ap (λ b. cond b (entered ts (numbers_of ns (file_names bs))) (Err NameLength)) a
