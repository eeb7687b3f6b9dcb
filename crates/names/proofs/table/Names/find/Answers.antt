-- The first place is the one that a search by number answers.
use Rattle.std.proofs.Common.{◌≡◌, ◌≢◌, vec_items, sym, ap, ◌∙◌, rules}
use Rattle.std.proofs.lemmas.Iterator.{YieldsList-from_slice, IsFirst-from_position}
use borrow.Author.Tests.{tests}
use Rattle.names.specs.Spans.{spanned}
use Rattle.names.specs.Interning.{seek}
use Rattle.names.proofs.Tables.{sought}
use Rattle.names.proofs.table.Names.find.Goals as goal
use Rattle.names.proofs.table.Names.find.Goals.{After-branch-place}

place : (c : After-branch-place) → c.position.result ≡ seek 0 c.args.self.now c.args.bytes.now
place c =
    sought (vec_items c.self.inside.bytes) (vec_items c.self.inside.spans) _ _ (IsFirst-from_position _ _ c.position.result (λ s. spanned (vec_items c.self.inside.bytes) s ≡ c.args.bytes.now) (λ s. spanned (vec_items c.self.inside.bytes) s ≢ c.args.bytes.now) c.position.ensures.ran (YieldsList-from_slice (vec_items c.self.inside.spans) cc) (λ x q k. search (rules, tests)) (λ x q k. search (rules, tests))) ∙ ap (λ l. seek 0 l c.args.bytes.now) c.self.view_is

pub returns-in_err-place : goal.returns-in_err-place
returns-in_err-place c = c.from_residual.ensures ∙ sym c.in_err-place.was ∙ place (goal.at.returns-in_err-place c).After-branch-place

pub returns : goal.returns
returns c = sym c.in_ok-place.was ∙ place (goal.at.returns c).After-branch-place
