-- What a listing says of a value, but for names and punctuation: an integer in decimal, a float by eight hexadecimal digits of its bits,
-- a passed directive by its word and how many tokens it has.
use Rattle.std.specs.Prelude.{ℕ, ◌-◌, ◌^◌, false, List, [], ◌++◌, codes}
use Rattle.std.specs.Fmt.{decimal, digits, padded_integral, format_spec}
use Rattle.tokens.specs.declared.token.Integer.{Integer}
use Rattle.tokens.specs.declared.token.Float.{Float}
use Rattle.tokens.specs.declared.token.Version.{Version}
use Rattle.tokens.specs.declared.token.Extension.{Extension}
use Rattle.tokens.specs.declared.token.Pragma.{Pragma}

abbrev pub integer_text : Integer → List ℕ
integer_text i = decimal i.value

abbrev pub float_text : Float → List ℕ
float_text x = codes "f" ++ padded_integral (format_spec 32 0 4 8 (2 ^ 64 - 1)) false [] (digits 16 false x.bits)

abbrev pub version_text : Version → List ℕ
version_text v = codes "version " ++ decimal v.tokens.len

abbrev pub extension_text : Extension → List ℕ
extension_text e = codes "extension " ++ decimal e.tokens.len

abbrev pub pragma_text : Pragma → List ℕ
pragma_text p = codes "pragma " ++ decimal p.tokens.len
