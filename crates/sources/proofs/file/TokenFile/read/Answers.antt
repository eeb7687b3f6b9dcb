-- The tests in their order.
use Rattle.std.proofs.Common.{◌≡◌, true, map, Some, Ok, vec_items, sym, ap, ◌∙◌, inl, inr, ⊎_elim}
use Rattle.std.proofs.lemmas.Result.{err_from_is_err_and}
use Rattle.std.specs.List.{list_all}
use Rattle.sources.specs.Source.{lawful}
use Rattle.sources.specs.Contents.{lens_of, cut, fit, name_lens, file_names, file_tokens}
use Rattle.sources.specs.Entering.{numbers_of}
use Rattle.sources.specs.Filed.{begun, entered, renamed, filed}
use Rattle.sources.proofs.Laws.{renamed_lawful}
use Rattle.sources.proofs.Filing.{file_tokens_lem, all_tested}
use Rattle.sources.proofs.file.TokenFile.read.Goals as goal
use Rattle.sources.proofs.file.TokenFile.read.Goals.{In_ok-tokens, After-lengths_fit, After-enter_names}

tokens_are : (c : In_ok-tokens) → file_tokens c.args.bytes.now ≡ Some (vec_items c.in_ok-tokens.tokens)
tokens_are c =
    let p = rw c.in_ok-parts.ensures.ok_part at c.parts_of.ensures in
    sym (file_tokens_lem c.args.bytes.now c.in_ok-parts.parts.records.now c.in_ok-parts.parts.names p.0 p.4 p.1) ∙ c.in_ok-tokens.ensures

laws : (c : After-lengths_fit) → lawful (begun (vec_items c.in_ok-tokens.tokens)) ≡ true
laws c = ap (λ ts. lawful (begun ts)) (sym c.deref.ensures.value) ∙ sym c.if-not-keep_laws.ensures

-- where all tests are met, the names decide
named : (c : After-enter_names) → file_tokens c.args.bytes.now ≡ Some (vec_items c.in_ok-tokens.tokens) → lawful (begun (vec_items c.in_ok-tokens.tokens)) ≡ true → filed c.args.table.now c.args.bytes.now ≡ entered (vec_items c.in_ok-tokens.tokens) (numbers_of c.args.table.now (file_names c.args.bytes.now))
named c e l =
    let p = rw c.in_ok-parts.ensures.ok_part at c.parts_of.ensures in
    let a : list_all fit (name_lens c.args.bytes.now) ≡ true = ap (λ ls. list_all fit (lens_of ls)) (sym p.2) ∙ sym c.if-not-lengths_fit.ensures in
    all_tested c.args.table.now c.args.bytes.now c.if-bytes-gt-FILE_BYTES.false p.0 _ e l a

names_are : (c : After-enter_names) → cut (lens_of c.in_ok-parts.parts.lengths.now) c.in_ok-parts.parts.text.now ≡ file_names c.args.bytes.now
names_are c =
    let p = rw c.in_ok-parts.ensures.ok_part at c.parts_of.ensures in
    let ls = p.2 in
    let ts = p.3 in
    λ i. cut (lens_of (ls i)) (ts i)

pub returns-in_err-numbers-clause-value : goal.returns-in_err-numbers-clause-value
returns-in_err-numbers-clause-value c =
    let t = (goal.at.returns-in_err-numbers-clause-value c).After-enter_names in
    let n = named t (tokens_are (goal.at.returns-in_err-numbers-clause-value c).In_ok-tokens) (laws (goal.at.returns-in_err-numbers-clause-value c).After-lengths_fit) in
    let d = c.in_err-numbers.ensures in
    let q = err_from_is_err_and c.from_residual-in_err-numbers.result c.from_residual-in_err-numbers.ensures.1 in
    rw (q.1, q.2) (⊎_elim (λ m. inl m) (λ b. inr (n ∙ ap (entered (vec_items c.in_ok-tokens.tokens)) (ap (numbers_of c.args.table.now) (sym (names_are t)) ∙ b))) d.value)

pub invariant_of-result : goal.invariant_of-result
invariant_of-result c = record { kept = ap (λ ts. lawful (begun (map (renamed (vec_items c.in_ok-numbers.numbers)) ts))) c.into_iter.ensures.rest ∙ renamed_lawful (vec_items c.in_ok-numbers.numbers) (vec_items c.in_ok-tokens.tokens) ∙ laws (goal.at.invariant_of-result c).After-lengths_fit }

pub returns-clause-value : goal.returns-clause-value
returns-clause-value c =
    let t = (goal.at.returns-clause-value c).After-enter_names in
    let n = named t (tokens_are (goal.at.returns-clause-value c).In_ok-tokens) (laws (goal.at.returns-clause-value c).After-lengths_fit) in
    let d = c.in_ok-numbers.ensures in
    n ∙ ap (entered (vec_items c.in_ok-tokens.tokens)) (ap (numbers_of c.args.table.now) (sym (names_are t)) ∙ d.value) ∙ ap (λ ts. Ok (begun (map (renamed (vec_items c.in_ok-numbers.numbers)) ts))) (sym c.into_iter.ensures.rest)
