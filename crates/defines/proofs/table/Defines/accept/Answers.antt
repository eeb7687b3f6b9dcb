use Rattle.std.proofs.Common.{◌≡◌, ◌-◌, ◌<◌, ◌≤◌, false, length, take, drop, vec_items, vec_len, sym, refl, ap, ◌∙◌, subst, arith, le-ltb, lt-ltb}
use Rattle.std.proofs.lemmas.List.{length-take}
use borrow.Author.Tests.{both_ways}
use Rattle.books.specs.Book.{find, Kept}
use Rattle.books.specs.Books.{grown_same}
use Rattle.defines.specs.Changes.{made, entered, accepted}
use Rattle.defines.specs.Held.{held, parameters, replacement}
use Rattle.defines.specs.Sounds.{held_sound, table_len}
use Rattle.defines.proofs.Removals.{without_len, grown_is, grown_accepted, kept_accepted, found_accepted}
use Rattle.defines.proofs.table.Defines.accept.Goals as goal

pub returns-then-len-ge-MAX_DEFINES : goal.returns-then-len-ge-MAX_DEFINES
unfolding held
returns-then-len-ge-MAX_DEFINES c =
    let s = c.args.self.now in
    let z = c.give_back.new.self in
    let told = c.give_back.ensures in
    let full : 512 ≤ length (held s).table = omega (arith, table_len s, c.len.ensures) in
    let end : s.mark ≡ vec_len z.kept = omega (arith, ap length told.kept, length-take s.mark (vec_items s.kept), z.kept.ok.0, s.kept.ok.0, s.ordered, s.inside) in
    record {
      value = sym (le-ltb _ 512 full);
      refused = refl;
      defs = told.defs;
      handles = grown_is (held s) _ (held s) told.defs (grown_same (held s));
      names = subst (Kept (held s)) (sym told.defs) (λ n y. y);
      found = λ y. absurd (both_ways false refl y);
      kept = told.kept;
      mark = told.mark ∙ end;
      body = told.body ∙ end;
    }

pub enter-requires : goal.enter-requires
unfolding held
enter-requires c =
    let s = c.args.self.now in
    let u = c.undefine.new.self in
    let same = ap (λ d. length d.table) c.undefine.ensures.defs in
    record {
      free = c.undefine.ensures.gone;
      room = omega (arith, same, without_len (held s) c.args.name, table_len s, table_len u, c.len.ensures);
    }

pub returns : goal.returns
unfolding held
returns c =
    let s = c.args.self.now in
    let u = c.undefine.new.self in
    let z = c.enter.new.self in
    let name = c.args.name in
    let kind = c.args.function_like in
    let took = c.undefine.ensures in
    let put = c.enter.ensures in
    let e = made name kind (parameters s) (replacement s) in
    let room : length (held s).table < 512 = omega (arith, table_len s, c.len.ensures) in
    let read : made name kind (parameters u) (replacement u) ≡ e =
    ap (λ m. made name kind (take (u.body - m) (drop m (vec_items u.kept))) (replacement u)) took.mark
    ∙ ap (λ b. made name kind (take (b - s.mark) (drop s.mark (vec_items u.kept))) (drop b (vec_items u.kept))) took.body
    ∙ ap (λ k. made name kind (take (s.body - s.mark) (drop s.mark k)) (drop s.body k)) took.kept in
    let defs : held z ≡ accepted (held s) e = put.defs ∙ ap (entered (held u)) read ∙ ap (λ d. entered d e) took.defs in
    let len : vec_len z.kept ≡ vec_len u.kept = omega (arith, ap length put.kept, z.kept.ok.0, u.kept.ok.0) in
    record {
      value = sym (lt-ltb _ 512 room);
      refused = tt;
      defs = defs;
      handles = grown_is (held s) _ (accepted (held s) e) defs (grown_accepted (held s) e refl);
      names = subst (Kept (held s)) (sym defs) (kept_accepted (held s) e refl);
      found = λ _. ap (λ d. find d name) defs ∙ found_accepted (held s) e refl (held_sound s);
      kept = put.kept ∙ took.kept;
      mark = put.mark ∙ sym len;
      body = put.body ∙ sym len;
    }
