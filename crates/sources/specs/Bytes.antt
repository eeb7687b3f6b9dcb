-- Numbers and fields in bytes, lowest byte first.
-- two bs i, four bs i, eight bs i: the number in the 2, 4 or 8 bytes from place i on; raw_of bs: one token's fields in its 24 bytes
use Rattle.std.specs.Prelude.{ℕ, ◌+◌, ◌*◌, List, slice_index}
use Rattle.sources.specs.declared.file.raw.Raw.{Raw}

abbrev pub two : List ℕ → ℕ → ℕ
two bs i = slice_index bs i + slice_index bs (i + 1) * 256

abbrev pub four : List ℕ → ℕ → ℕ
four bs i = slice_index bs i + slice_index bs (i + 1) * 256 + slice_index bs (i + 2) * 65536 + slice_index bs (i + 3) * 16777216

abbrev pub eight : List ℕ → ℕ → ℕ
eight bs i = four bs i + four bs (i + 4) * 4294967296

abbrev pub raw_of : List ℕ → Raw
raw_of bs = record { kind = slice_index bs 0; marks = slice_index bs 1; width = two bs 2; value = eight bs 4; start = four bs 12; end = four bs 16; line = four bs 20 }
