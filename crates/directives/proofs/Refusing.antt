-- A refused definition leaves the definitions and the kept tokens as they were.
use Rattle.std.proofs.Common.{◌≡◌, Bool, false, cond, is_ok, Ok, Err, OnErr, Result, List, vec_items, sym, refl, ap, ◌∙◌, subst}
use Rattle.tokens.specs.declared.token.Token.{Token}
use Rattle.books.specs.Book.{Defs, Grown, Kept}
use Rattle.defines.specs.declared.table.Defines.{Defines}
use Rattle.defines.specs.Held.{held, settled, ReadOn, Settled}
use Rattle.reading.proofs.ReadingOn.{unread}
use Rattle.directives.specs.Unchanged.{Same}

pub grown_is : (d e : Defs) → e ≡ d → Grown d e
grown_is d e f = subst (Grown d) (sym f) (λ h l. (l, refl))

pub kept_is : (d e : Defs) → e ≡ d → Kept d e
kept_is d e f = subst (Kept d) (sym f) (λ n h. h)

pub as_before : (r s t : Defines) → Settled r → ReadOn r s → held t ≡ held s → vec_items t.kept ≡ settled s → Same r t
as_before r s t z o d e = record { defs = d ∙ o.defs; kept = unread r s t z o e }

pub not_taken : (b : Bool) (xs ys zs : List Token) → zs ≡ cond b xs ys → b ≡ false → zs ≡ ys
not_taken b xs ys zs e f = e ∙ ap (λ c. cond c xs ys) f

pub not_accepted : (b : Bool) (d e f : Defs) → f ≡ cond b d e → b ≡ false → f ≡ e
not_accepted b d e f g h = g ∙ ap (λ c. cond c d e) h

-- what holds of a refusal
pub on_err : {X E : Type 0} (r : Result X E) (P : Type 0) → (is_ok r ≡ false → P) → OnErr r P
on_err (Ok x) P f = tt
on_err (Err e) P f = f refl
