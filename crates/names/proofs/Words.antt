-- Words, entered one after another.
use Rattle.std.proofs.Common.{◌≡◌, ℕ, ◌+◌, ◌<◌, List, map, length, get_or, drop, fold, sym, ap, ◌∙◌, Bor}
use Rattle.std.proofs.lemmas.List.{at_drop_more}
use Rattle.names.specs.Interning.{after}

pub next_word : (ws : List (Bor (List ℕ))) (ns ms : List (List ℕ)) (i : ℕ) (w : Bor (List ℕ)) → i < length ws → ms ≡ after ns (get_or ws i w).now → fold after ms (map (λ w. w.now) (drop (i + 1) ws)) ≡ fold after ns (map (λ w. w.now) (drop i ws))
next_word ws ns ms i w h new = ap (λ l. fold after l (map (λ w. w.now) (drop (i + 1) ws))) new ∙ sym (at_drop_more (λ l. fold after ns (map (λ w. w.now) l)) ws i w h)
