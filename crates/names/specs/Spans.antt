-- Names as byte strings that lie one after another in one list of bytes.
-- spanned bs s: the bytes of one name; listed bs ss: all names in their order
-- Sound bytes spans: what a table of names keeps, and that it has its room
-- Within bs ss: each span ends within the bytes; Placed ns ss: each name begins where those before it end; Distinct ns: no two names are alike
use Rattle.std.specs.Prelude.{◌≡◌, ℕ, ◌+◌, ◌<◌, ◌≤◌, List, [], map, length, get_or, take, drop, slice_index_or, Vec, vec_len, vec_capacity}
use Rattle.std.specs.List.{concat}
use Rattle.std.specs.declared.alloc.Global.{Global}
use Rattle.tokens.specs.declared.token.Part.{Part}

abbrev pub spanned : List ℕ → Part → List ℕ
spanned bs s = take s.len (drop s.start bs)

abbrev pub listed : List ℕ → List Part → List (List ℕ)
listed bs ss = map (spanned bs) ss

abbrev pub Within : List ℕ → List Part → Type 0
Within bs ss = (k : ℕ) (d : Part) → k < length ss → (get_or ss k d).start + (get_or ss k d).len ≤ length bs

abbrev pub Placed : List (List ℕ) → List Part → Type 0
Placed ns ss = (k : ℕ) (d : Part) → k < length ss → (get_or ss k d).start ≡ length (concat (take k ns))

abbrev pub Distinct : List (List ℕ) → Type 0
Distinct ns = (i j : ℕ) → (i < length ns) × (j < length ns) × (slice_index_or ns i [] ≡ slice_index_or ns j []) → i ≡ j

pub record Sound (bytes : Vec ℕ Global) (spans : Vec Part Global) : Type 0 where
  pub few : vec_len spans ≤ 1024
  pub short : vec_len bytes ≤ 16384
  pub roomy : 16384 ≤ vec_capacity bytes
  pub wide : 1024 ≤ vec_capacity spans
  pub within : Within bytes.items spans.items
  pub joined : concat (listed bytes.items spans.items) ≡ bytes.items
  pub placed : Placed (listed bytes.items spans.items) spans.items
  pub distinct : Distinct (listed bytes.items spans.items)
