-- One token fewer is still lawful.
use Rattle.std.proofs.Common.{◌≡◌, true, ◌∷◌, ◌++◌, map, option_to_list, vec_items, sym, ap, ◌∙◌, subst}
use Rattle.std.specs.Vec.Iter.{into_iter_items}
use Rattle.sources.specs.Source.{Tokens, lawful}
use Rattle.sources.specs.Filed.{renamed}
use Rattle.sources.specs.FileSource.{filing}
use Rattle.sources.proofs.Laws.{lawful_after}
use Rattle.sources.proofs.Reading.{first_after}
use Rattle.sources.proofs.file.read.TokenFileSource.next.Goals as goal

pub invariant_of-self-2 : goal.invariant_of-self-2
invariant_of-self-2 c =
    let s = c.args.self.now in
    let left = into_iter_items c.next.new.self in
    let items : into_iter_items s.tokens ≡ c.in_ok-next.next ∷ left = c.next.ensures.items ∙ ap (λ o. option_to_list o ++ left) c.in_ok-next.ensures.ok_part in
    let token : renamed (vec_items s.numbers) c.in_ok-next.next ≡ c.rename-token.result = ap (λ is. renamed is c.in_ok-next.next) (sym c.deref.ensures.value) ∙ sym c.rename-token.ensures in
    let rest : (filing s).rest ≡ c.rename-token.result ∷ map (renamed (vec_items s.numbers)) left = ap (map (renamed (vec_items s.numbers))) items ∙ ap (λ t. t ∷ map (renamed (vec_items s.numbers)) left) token in
    record { kept = subst (λ (k : Tokens). lawful k ≡ true) (sym (first_after (filing s) _ _ rest)) (lawful_after (filing s) s.kept) }
