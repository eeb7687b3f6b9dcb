-- Tokens decoded so far, and those still to be decoded.
use Rattle.std.proofs.Common.{◌≡◌, ℕ, ◌+◌, ◌<◌, List, [], ◌∷◌, ◌++◌, length, get_or, drop, Some, None, Option, sym, refl, ap, ◌∙◌}
use Rattle.std.proofs.lemmas.List.{append_assoc, at_drop_more}
use Rattle.tokens.specs.declared.lexer.LexerToken.{LexerToken}
use Rattle.sources.specs.declared.file.raw.Raw.{Raw}
use Rattle.sources.specs.Bytes.{raw_of}
use Rattle.sources.specs.Fields.{decoded_token, tokens_of, together}

abbrev pub behind : {A : Type 0} → List A → Option (List A) → Option (List A)
behind xs None = None
behind xs (Some ts) = Some (xs ++ ts)

pub behind_more : {A : Type 0} (xs : List A) (t : A) (o : Option (List A)) → behind xs (together (Some t) o) ≡ behind (xs ++ t ∷ []) o
behind_more xs t None = refl
behind_more xs t (Some ts) = ap Some (sym (append_assoc xs (t ∷ []) ts))

module _ (n : ℕ) (bs : List (List ℕ)) (i : ℕ) (d : List ℕ) (r : Raw) (xs : List LexerToken) (h : i < length bs) (same : r ≡ raw_of (get_or bs i d)) where
  more : tokens_of n (drop i bs) ≡ together (decoded_token n r) (tokens_of n (drop (i + 1) bs))
  more = at_drop_more (tokens_of n) bs i d h ∙ ap (λ x. together (decoded_token n x) (tokens_of n (drop (i + 1) bs))) (sym same)

  pub decoded : (t : LexerToken) → Some t ≡ decoded_token n r → behind (xs ++ t ∷ []) (tokens_of n (drop (i + 1) bs)) ≡ behind xs (tokens_of n (drop i bs))
  decoded t e = sym (ap (behind xs) (more ∙ ap (λ o. together o (tokens_of n (drop (i + 1) bs))) (sym e)) ∙ behind_more xs t (tokens_of n (drop (i + 1) bs)))
