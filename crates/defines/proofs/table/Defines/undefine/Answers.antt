use Rattle.std.proofs.Common.{◌≡◌, ◌<◌, length, set, vec_items, vec_len, sym, refl, ap, ◌∙◌, subst, arith}
use Rattle.std.proofs.lemmas.List.{get_or_read_under}
use Rattle.books.specs.Book.{find}
use Rattle.books.specs.Books.{found}
use Rattle.defines.specs.Changes.{cleared, without}
use Rattle.defines.specs.Parts.{entries, shelf, vacant, Within, Once}
use Rattle.defines.specs.Held.{held}
use Rattle.defines.specs.Entries.{entries_len}
use Rattle.defines.specs.Sounds.{held_sound, table_len}
use Rattle.defines.proofs.Removals.{grown_is, grown_without, none_without}
use Rattle.defines.proofs.Rows.{dulled, dulled_entries, dulled_within, dulled_once}
use Rattle.defines.proofs.table.Defines.undefine.Goals as goal

pub index_mut-requires : goal.index_mut-requires
unfolding held
index_mut-requires c =
    let s = c.args.self.now in
    let f = found (held s) c.args.name c.in-Some.handle (sym c.find.ensures.value ∙ c.in-Some.is) in
    omega (arith, f.0, table_len s)

pub invariant_of-self : goal.invariant_of-self
unfolding held
invariant_of-self c =
    let s = c.args.self.now in
    let kept = vec_items s.kept in
    let table = vec_items s.table in
    let h = c.in-Some.handle in
    let f = found (held s) c.args.name h (sym c.find.ensures.value ∙ c.in-Some.is) in
    let l : h < length table = omega (arith, f.0, entries_len kept table) in
    let read = get_or_read_under table h (vec_len s.table) c.index_mut.result.now vacant c.index_mut.ensures.value (omega (arith, s.table.ok.0)) s.table.ok.0 in
    let same = ap (λ d. set table h (dulled d)) read in
    record {
      room = s.room;
      spaces = s.spaces;
      small = s.small;
      few = s.few;
      ordered = s.ordered;
      inside = s.inside;
      slim = s.slim;
      within = subst (Within s.mark) (sym same) (dulled_within kept table h l s.mark s.within);
      once = subst Once (sym same) (dulled_once kept table h l s.once);
    }

pub returns-in-Some : goal.returns-in-Some
unfolding held
returns-in-Some c =
    let s = c.args.self.now in
    let kept = vec_items s.kept in
    let table = vec_items s.table in
    let name = c.args.name in
    let h = c.in-Some.handle in
    let is = sym c.find.ensures.value ∙ c.in-Some.is in
    let f = found (held s) name h is in
    let l : h < length table = omega (arith, f.0, entries_len kept table) in
    let read = get_or_read_under table h (vec_len s.table) c.index_mut.result.now vacant c.index_mut.ensures.value (omega (arith, s.table.ok.0)) s.table.ok.0 in
    let same : shelf kept (set table h (dulled c.index_mut.result.now)) ≡ without (held s) name =
    ap (λ d. shelf kept (set table h (dulled d))) read ∙ ap (λ es. record { table = es }) (dulled_entries kept table h l ∙ ap (cleared (entries kept table)) (sym is)) in
    record {
      defs = same;
      handles = grown_is (held s) _ (without (held s) name) same (grown_without (held s) name);
      gone = ap (λ d. find d name) same ∙ none_without (held s) name (held_sound s);
      kept = refl;
      mark = refl;
      body = refl;
    }
