use Rattle.std.proofs.Common.{refl, subst}
use Rattle.books.specs.Book.{Grown}
use Rattle.defines.specs.Held.{held}
use Rattle.directives.proofs.processor.DirectiveProcessor.parse_define_directive.Goals as goal

pub returns-in-Ok : goal.returns-in-Ok
returns-in-Ok g c = record { handles = subst (λ d. Grown d (held c.accept_define-accepted.new.defines)) c.read_define.ensures.defs c.accept_define-accepted.ensures.handles; segments = refl }
