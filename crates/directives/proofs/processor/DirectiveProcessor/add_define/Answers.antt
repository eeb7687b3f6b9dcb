use Rattle.std.proofs.Common.{◌≡◌, false, is_ok, refl, sym, ◌∙◌, subst}
use Rattle.books.specs.Book.{Grown, Kept}
use Rattle.defines.specs.Held.{held}
use Rattle.directives.proofs.Refusing.{on_err, grown_is, kept_is, as_before, not_taken, not_accepted}
use Rattle.directives.proofs.processor.DirectiveProcessor.add_define.Goals as goal

pub returns-in-Err : goal.returns-in-Err
returns-in-Err g c =
    let s = c.args.self.now.defines in
    let t = c.give_back.new.self in
    let same = as_before s c.keep_tokens.new.defines t c.args.self.now.settled c.keep_tokens.ensures c.give_back.ensures.defs c.give_back.ensures.kept in
    record { handles = grown_is (held s) (held t) same.defs; names = kept_is (held s) (held t) same.defs; refused = same; others = record { reader = refl; blocks = refl; parser = refl; offset = refl; directive = refl; text = refl } }

pub returns : goal.returns
returns g c =
    let s = c.args.self.now.defines in
    let t = c.accept-accepted.new.self in
    let put = c.accept-accepted.ensures in
    record {
      handles = subst (λ d. Grown d (held t)) c.keep_tokens.ensures.defs put.handles;
      names = subst (λ d. Kept d (held t)) c.keep_tokens.ensures.defs put.names;
      refused = on_err _ _ (λ e.
          let not : is_ok c.accept-accepted.result ≡ false = sym c.map_err.ensures.variant ∙ e in
          as_before s c.keep_tokens.new.defines t c.args.self.now.settled c.keep_tokens.ensures (not_accepted _ _ _ _ put.defs not) (not_taken _ _ _ _ put.kept not));
      others = record { reader = refl; blocks = refl; parser = refl; offset = refl; directive = refl; text = refl };
    }
