-- How steps compose.
use Rattle.std.proofs.Common.{refl, ◌∙◌}
use Rattle.stores.specs.Tank.{tank}
use Rattle.stores.specs.declared.meter.Meter.{Meter}
use Rattle.books.specs.Book.{Defs}
use Rattle.expansion.specs.Processor.{view}
use Rattle.expansion.specs.Moved.{Moved}
use Rattle.expansion.specs.Steps.{Stepped}
use Rattle.expansion.specs.declared.expander.Expander.{Expander}
use Rattle.expansion.specs.declared.processor.MacroProcessor.{MacroProcessor}
use Rattle.expansion.proofs.Motions.{none_moved, then_moved}

pub none_stepped : {F : Type 0} {defs : F → Defs} {s : Expander F} → Stepped defs s s
none_stepped {F} {defs} {s} = record { moved = none_moved _ _ _; processor = refl; feed = refl; meter = refl }

pub then_stepped : {F : Type 0} {defs : F → Defs} {s t u : Expander F} → Stepped defs s t → Stepped defs t u → Stepped defs s u
then_stepped {F} {defs} {s} {t} {u} a b = record {
  moved = then_moved _ _ _ _ (view t.processor.now) _ _ (tank t.meter.now) _ a.moved b.moved;
  processor = b.processor ∙ a.processor;
  feed = b.feed ∙ a.feed;
  meter = b.meter ∙ a.meter;
}

-- s where other values have come behind its loans
abbrev pub lent : {F : Type 0} → Expander F → MacroProcessor → F → Meter → Expander F
lent s p f m = record { processor = record s.processor { now = p }; feed = record s.feed { now = f }; meter = record s.meter { now = m } }

pub lent_stepped : {F : Type 0} {defs : F → Defs} (s : Expander F) {p : MacroProcessor} {f : F} {m : Meter} → Moved (defs s.feed.now) (view s.processor.now) (tank s.meter.now) (defs f) (view p) (tank m) → Stepped defs s (lent s p f m)
lent_stepped s w = record { moved = w; processor = refl; feed = refl; meter = refl }
