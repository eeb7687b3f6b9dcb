-- pushed bs b: one more block, unless 64 are open; replaced bs b: another top
use Rattle.std.specs.Prelude.{◌-◌, cond, List, [], ◌∷◌, ◌++◌, length, nat_lt, slice_set}
use Rattle.reading.specs.declared.blocks.DirectiveBlock.{DirectiveBlock}

abbrev pub pushed : List DirectiveBlock → DirectiveBlock → List DirectiveBlock
pushed bs b = cond (nat_lt (length bs) 64) (bs ++ b ∷ []) bs

abbrev pub replaced : List DirectiveBlock → DirectiveBlock → List DirectiveBlock
replaced bs b = slice_set bs (length bs - 1) b
