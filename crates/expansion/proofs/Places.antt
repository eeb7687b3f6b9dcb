-- There is a place for each macro that goes on the stack.
use Rattle.std.proofs.Common.{◌≡◌, ℕ, ◌-◌, ◌<◌, false, List, [], ◌∷◌, ◌++◌, length, take, Some, None, inl, arith}
use Rattle.std.proofs.lemmas.List.{length_push, length-take}
use Rattle.expansion.specs.declared.invocation.DefineInvocation.{DefineInvocation}
use Rattle.expansion.specs.declared.invocation.Pending.{Pending}
use Rattle.books.specs.Book.{Defs, Sound, find}
use Rattle.books.specs.Books.{found}
use Rattle.expansion.specs.Processor.{lowest}
use Rattle.expansion.specs.Phases.{barred}
use Rattle.expansion.specs.Sane.{Free, Sane, Placed}
use Rattle.expansion.proofs.Stacks.{unbarred, found_has, entered_sane, resumed_sane, resumed_free}
use Rattle.expansion.proofs.Counts.{sane_few, live_length}

module _ (d : Defs) (sound : Sound d) where
  room : (us : List DefineInvocation) (bs : List Pending) (h n : ℕ) → Sane d us bs → Free d us (length us) h n → length us < 513
  room us bs h n s f =
      let u : DefineInvocation = record { name = n; handle = h; at = 0; reading = None } in
      let w = sane_few d (us ++ u ∷ []) bs (entered_sane d us bs u s f) in
      omega (arith, w, length_push us u, live_length d.table, sound.few)

  pub room_begun : (us : List DefineInvocation) (bs : List Pending) (h n : ℕ) → Sane d us bs → barred us n ≡ false → find d n ≡ Some h → length us < 513
  room_begun us bs h n s b e =
      let v = found d n h e in
      room us bs h n s (record { bears = record { known = v.0; named = v.1 }; free = unbarred us n b; force = inl (found_has d.table 0 n h e) })

  pub room_placed : (us : List DefineInvocation) (bs : List Pending) → Sane d us bs → Placed bs
  room_placed us bs s o =
      let w = room (take (lowest bs).end us) (take (length bs - 1) bs) _ _ (resumed_sane d us bs s o) (resumed_free d us bs s o) in
      omega (arith, w, length-take (lowest bs).end us, s.within (length bs - 1) (omega arith))
