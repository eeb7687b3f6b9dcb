use Rattle.std.proofs.Common.{◌≡◌, ◌-◌, true, false, vec_items, sym, ap, ◌∙◌}
use mathlib.Core.Bool.{beq}
use Rattle.defines.specs.Parts.{part_of, entry}
use Rattle.defines.specs.Held.{held, parameters, replacement}
use Rattle.defines.specs.Values.{token_lists_agree, legal}
use Rattle.defines.proofs.Sames.{other_kind, other_params, by_body, is_true, is_false, parts_told, rests_told}
use Rattle.defines.proofs.table.Defines.legal_redefinition.Goals as goal

pub returns-then-previous-function_like : goal.returns-then-previous-function_like
unfolding held
returns-then-previous-function_like c =
    let s = c.args.self.now in
    let kept = vec_items s.kept in
    let d = c.define-previous.result in
    let kind = c.args.function_like in
    other_kind (entry kept d).def kind (parameters s) (replacement s) (is_false (beq d.function_like kind) c.if-previous-function_like.true)
    ∙ ap (λ m. legal m kind (parameters s) (replacement s)) c.define-previous.ensures.means

pub returns-then-not-same_tokens : goal.returns-then-not-same_tokens
unfolding held
returns-then-not-same_tokens c =
    let s = c.args.self.now in
    let kept = vec_items s.kept in
    let d = c.define-previous.result in
    let kind = c.args.function_like in
    let params : false ≡ token_lists_agree (part_of kept d.params) (parameters s) = parts_told kept _ _ _ s.mark (s.body - s.mark) false (c.of.ensures ∙ ap (λ k. part_of k d.params) c.deref.ensures.value) c.deref-2.ensures.value c.if-not-same_tokens.ensures in
    other_params (entry kept d).def kind (parameters s) (replacement s) (is_true (beq d.function_like kind) c.if-previous-function_like.false) (sym params)
    ∙ ap (λ m. legal m kind (parameters s) (replacement s)) c.define-previous.ensures.means

pub returns : goal.returns
unfolding held
returns c =
    let s = c.args.self.now in
    let kept = vec_items s.kept in
    let d = c.define-previous.result in
    let kind = c.args.function_like in
    let params : true ≡ token_lists_agree (part_of kept d.params) (parameters s) = parts_told kept _ _ _ s.mark (s.body - s.mark) true (c.of.ensures ∙ ap (λ k. part_of k d.params) c.deref.ensures.value) c.deref-2.ensures.value c.if-not-same_tokens.ensures in
    let body : c.same_tokens-2.result ≡ token_lists_agree (part_of kept d.tokens) (replacement s) = rests_told kept _ _ _ s.body _ (c.of-2.ensures ∙ ap (λ k. part_of k d.tokens) c.deref-3.ensures.value) c.deref-4.ensures.value c.same_tokens-2.ensures in
    body
    ∙ by_body (entry kept d).def kind (parameters s) (replacement s) (is_true (beq d.function_like kind) c.if-previous-function_like.false) (sym params)
    ∙ ap (λ m. legal m kind (parameters s) (replacement s)) c.define-previous.ensures.means
