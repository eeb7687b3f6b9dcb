-- part_in v: where the tokens of a passed directive are kept; directive_tokens ks v: those tokens, none for other values
use Rattle.std.specs.Prelude.{List}
use Rattle.tokens.specs.declared.token.Part.{Part}
use Rattle.tokens.specs.declared.token.Token.{Token}
use Rattle.tokens.specs.declared.token.TokenValue.{TokenValue}
use Rattle.tokens.specs.declared.token.TokenValue.TheVariants.{Ident, Integer, Float, Punct, Version, Extension, Pragma}
use Rattle.defines.specs.Parts.{part_of, nowhere}

abbrev pub part_in : TokenValue → Part
part_in (Ident n) = nowhere
part_in (Integer i) = nowhere
part_in (Float f) = nowhere
part_in (Punct p) = nowhere
part_in (Version v) = v.tokens
part_in (Extension e) = e.tokens
part_in (Pragma p) = p.tokens

abbrev pub directive_tokens : List Token → TokenValue → List Token
directive_tokens ks v = part_of ks (part_in v)
