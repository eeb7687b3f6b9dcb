-- What a step leaves of the processor, the feed and the meter.
-- Ready defs s: the invariant of the macros in expansion holds of the processor, under the book of the feed
-- Stepped defs s t: from s to t: what Moved says, and the same loans are held
use Rattle.std.specs.Prelude.{◌≡◌}
use Rattle.stores.specs.Tank.{tank}
use Rattle.books.specs.Book.{Defs}
use Rattle.expansion.specs.Processor.{view}
use Rattle.expansion.specs.Sane.{Holds}
use Rattle.expansion.specs.Moved.{Moved}
use Rattle.expansion.specs.declared.expander.Expander.{Expander}

abbrev pub Ready : {F : Type 0} → (F → Defs) → Expander F → Type 0
Ready defs s = Holds (defs s.feed.now) (view s.processor.now)

pub record Stepped {F : Type 0} (defs : F → Defs) (s t : Expander F) : Type 0 where
  pub moved : Moved (defs s.feed.now) (view s.processor.now) (tank s.meter.now) (defs t.feed.now) (view t.processor.now) (tank t.meter.now)
  pub processor : t.processor.ghost_name ≡ s.processor.ghost_name
  pub feed : t.feed.ghost_name ≡ s.feed.ghost_name
  pub meter : t.meter.ghost_name ≡ s.meter.ghost_name
