-- What a conditional line makes of the open blocks and of whether text is skipped.
-- opened l b: the block that a line at l opens in live text, by whether its condition holds; dead l: in dead text
-- elsed b, chosen b: a block at its `#else`; a block of which a segment has held
-- else_on o bs, end_on o bs: the blocks and the skipping behind `#else` and `#endif`, where o is the innermost block
-- decided o: the condition of an `#elif` is not worked out; elif_on t o bs: the blocks behind it, where t says whether text is skipped then
-- if_on s t l bs: the blocks behind a line that opens one
use Rattle.std.specs.Prelude.{◌-◌, Bool, true, false, cond, not, ◌||◌, List, length, take, Some, None, Option}
use Rattle.tokens.specs.declared.location.Location.{Location}
use Rattle.reading.specs.declared.blocks.DirectiveBlock.{DirectiveBlock}
use Rattle.reading.specs.Blocks.{pushed, replaced}

abbrev pub opened : Location → Bool → DirectiveBlock
opened l h = record { start_location = l; had_valid_segment = h; had_else = false; outer_skipped = false }

abbrev pub dead : Location → DirectiveBlock
dead l = record { start_location = l; had_valid_segment = false; had_else = false; outer_skipped = true }

abbrev pub elsed : DirectiveBlock → DirectiveBlock
elsed b = record { start_location = b.start_location; had_valid_segment = b.had_valid_segment; had_else = true; outer_skipped = b.outer_skipped }

abbrev pub chosen : DirectiveBlock → DirectiveBlock
chosen b = record { start_location = b.start_location; had_valid_segment = true; had_else = b.had_else; outer_skipped = b.outer_skipped }

abbrev pub else_on : Option DirectiveBlock → List DirectiveBlock → List DirectiveBlock × Bool
else_on None bs = (bs, false)
else_on (Some b) bs = (replaced bs (elsed b), b.outer_skipped || b.had_valid_segment)

abbrev pub end_on : Option DirectiveBlock → List DirectiveBlock → List DirectiveBlock × Bool
end_on None bs = (bs, false)
end_on (Some b) bs = (take (length bs - 1) bs, b.outer_skipped)

-- in dead text, or once a segment held, the text behind an `#elif` is skipped
abbrev pub decided : Option DirectiveBlock → Bool
decided None = false
decided (Some b) = b.outer_skipped || b.had_valid_segment

abbrev pub elif_on : Bool → Option DirectiveBlock → List DirectiveBlock → List DirectiveBlock
elif_on true o bs = bs
elif_on false None bs = bs
elif_on false (Some b) bs = replaced bs (chosen b)

-- a line at l opens a block: s before and t behind it say whether text is skipped
abbrev pub if_on : Bool → Bool → Location → List DirectiveBlock → List DirectiveBlock
if_on s t l bs = pushed bs (cond s (dead l) (opened l (not t)))
