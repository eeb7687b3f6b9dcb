-- The book that the definitions are is sound; table_len: it has as many entries as the table.
use Rattle.std.specs.Prelude.{◌≡◌, length, vec_items, vec_len}
use Rattle.std.proofs.Common.{sym, ◌∙◌, arith}
use Rattle.books.specs.Book.{Sound}
use Rattle.defines.specs.declared.table.Defines.{Defines}
use Rattle.defines.specs.Held.{held}
use Rattle.defines.specs.Entries.{entries_len, sound}

pub held_sound : (s : Defines) → Sound (held s)
unfolding held
held_sound s = sound _ _ s.mark (omega (arith, s.kept.ok.0, s.small)) (omega (arith, s.table.ok.0, s.few)) s.within s.once

pub table_len : (s : Defines) → length (held s).table ≡ vec_len s.table
unfolding held
table_len s = entries_len (vec_items s.kept) (vec_items s.table) ∙ sym s.table.ok.0
