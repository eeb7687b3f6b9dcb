-- unexpected x: the fault of a lexed token that may not stand where it is
-- converted x: the token that a lexed token stands for, a hash or a line end
use Rattle.tokens.specs.declared.location.Location.{Location}
use Rattle.tokens.specs.declared.token.TokenValue.TheVariants as value
use Rattle.tokens.specs.declared.lexer.LexerToken.{LexerToken}
use Rattle.tokens.specs.declared.lexer.LexerTokenValue.{LexerTokenValue}
use Rattle.tokens.specs.declared.lexer.LexerTokenValue.TheVariants.{Ident, Integer, Float, Punct, Hash, NewLine}
use Rattle.tokens.specs.declared.fault.Fault.{Fault}
use Rattle.tokens.specs.declared.fault.Layer.TheVariants.{Directives}
use Rattle.tokens.specs.declared.fault.PreprocessorError.{PreprocessorError}
use Rattle.tokens.specs.declared.fault.PreprocessorError.TheVariants.{UnexpectedToken, UnexpectedHash, UnexpectedNewLine}
use Rattle.tokens.specs.Faults.{raised}
use Rattle.reading.specs.declared.convert.Converted.{Converted}
use Rattle.reading.specs.declared.convert.Converted.TheVariants as is

abbrev pub unexpected_value : LexerTokenValue → PreprocessorError
unexpected_value (Ident n) = UnexpectedToken (value.Ident n)
unexpected_value (Integer i) = UnexpectedToken (value.Integer i)
unexpected_value (Float f) = UnexpectedToken (value.Float f)
unexpected_value (Punct p) = UnexpectedToken (value.Punct p)
unexpected_value Hash = UnexpectedHash
unexpected_value NewLine = UnexpectedNewLine

abbrev pub unexpected : LexerToken → Fault
unexpected x = raised Directives (unexpected_value x.value) x.location

abbrev pub converted_value : LexerTokenValue → Location → Converted
converted_value (Ident n) l = is.Token (record { value = value.Ident n; location = l })
converted_value (Integer i) l = is.Token (record { value = value.Integer i; location = l })
converted_value (Float f) l = is.Token (record { value = value.Float f; location = l })
converted_value (Punct p) l = is.Token (record { value = value.Punct p; location = l })
converted_value Hash l = is.Hash
converted_value NewLine l = is.NewLine

abbrev pub converted : LexerToken → Converted
converted x = converted_value x.value x.location
