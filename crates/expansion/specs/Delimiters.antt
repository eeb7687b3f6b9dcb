-- delimits v: whether a value opens, closes or parts the arguments of a call
use Rattle.tokens.specs.declared.punct.Punct.{Punct}
use Rattle.tokens.specs.declared.punct.Punct.TheVariants as punct
use Rattle.tokens.specs.declared.token.TokenValue.{TokenValue}
use Rattle.tokens.specs.declared.token.TokenValue.TheVariants as value
use Rattle.expansion.specs.declared.delimiter.Delimiter.{Delimiter}
use Rattle.expansion.specs.declared.delimiter.Delimiter.TheVariants.{Open, Close, Comma, Other}

abbrev pub parts : Punct → Delimiter
parts punct.AddAssign = Other
parts punct.SubAssign = Other
parts punct.MulAssign = Other
parts punct.DivAssign = Other
parts punct.ModAssign = Other
parts punct.LeftShiftAssign = Other
parts punct.RightShiftAssign = Other
parts punct.AndAssign = Other
parts punct.XorAssign = Other
parts punct.OrAssign = Other
parts punct.Increment = Other
parts punct.Decrement = Other
parts punct.LogicalAnd = Other
parts punct.LogicalOr = Other
parts punct.LogicalXor = Other
parts punct.LessEqual = Other
parts punct.GreaterEqual = Other
parts punct.EqualEqual = Other
parts punct.NotEqual = Other
parts punct.LeftShift = Other
parts punct.RightShift = Other
parts punct.LeftBrace = Other
parts punct.RightBrace = Other
parts punct.LeftParen = Open
parts punct.RightParen = Close
parts punct.LeftBracket = Other
parts punct.RightBracket = Other
parts punct.LeftAngle = Other
parts punct.RightAngle = Other
parts punct.Semicolon = Other
parts punct.Comma = Comma
parts punct.Colon = Other
parts punct.Dot = Other
parts punct.Equal = Other
parts punct.Bang = Other
parts punct.Minus = Other
parts punct.Tilde = Other
parts punct.Plus = Other
parts punct.Star = Other
parts punct.Slash = Other
parts punct.Percent = Other
parts punct.Pipe = Other
parts punct.Caret = Other
parts punct.Ampersand = Other
parts punct.Question = Other

abbrev pub delimits : TokenValue → Delimiter
delimits (value.Ident n) = Other
delimits (value.Integer i) = Other
delimits (value.Float f) = Other
delimits (value.Punct p) = parts p
delimits (value.Version v) = Other
delimits (value.Extension e) = Other
delimits (value.Pragma p) = Other
