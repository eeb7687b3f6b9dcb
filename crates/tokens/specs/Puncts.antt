-- numbered p: the place of a punctuation in the list of all; punct_numbered n: the one at that place; punct_known n: it, or that none is there; spelled p: its bytes in GLSL
use Rattle.std.specs.Prelude.{ℕ, List, [], ◌∷◌, codes, Option, Result}
use Rattle.std.specs.List.{slice_get}
use Rattle.std.specs.Option.{ok_or}
use Rattle.tokens.specs.declared.punct.UnknownPunct.{UnknownPunct}
use Rattle.tokens.specs.declared.punct.Punct.{Punct}
use Rattle.tokens.specs.declared.punct.Punct.TheVariants.{AddAssign, SubAssign, MulAssign, DivAssign, ModAssign, LeftShiftAssign, RightShiftAssign, AndAssign, XorAssign, OrAssign, Increment, Decrement, LogicalAnd, LogicalOr, LogicalXor, LessEqual, GreaterEqual, EqualEqual, NotEqual, LeftShift, RightShift, LeftBrace, RightBrace, LeftParen, RightParen, LeftBracket, RightBracket, LeftAngle, RightAngle, Semicolon, Comma, Colon, Dot, Equal, Bang, Minus, Tilde, Plus, Star, Slash, Percent, Pipe, Caret, Ampersand, Question}

abbrev pub numbered : Punct → ℕ
numbered AddAssign = 0
numbered SubAssign = 1
numbered MulAssign = 2
numbered DivAssign = 3
numbered ModAssign = 4
numbered LeftShiftAssign = 5
numbered RightShiftAssign = 6
numbered AndAssign = 7
numbered XorAssign = 8
numbered OrAssign = 9
numbered Increment = 10
numbered Decrement = 11
numbered LogicalAnd = 12
numbered LogicalOr = 13
numbered LogicalXor = 14
numbered LessEqual = 15
numbered GreaterEqual = 16
numbered EqualEqual = 17
numbered NotEqual = 18
numbered LeftShift = 19
numbered RightShift = 20
numbered LeftBrace = 21
numbered RightBrace = 22
numbered LeftParen = 23
numbered RightParen = 24
numbered LeftBracket = 25
numbered RightBracket = 26
numbered LeftAngle = 27
numbered RightAngle = 28
numbered Semicolon = 29
numbered Comma = 30
numbered Colon = 31
numbered Dot = 32
numbered Equal = 33
numbered Bang = 34
numbered Minus = 35
numbered Tilde = 36
numbered Plus = 37
numbered Star = 38
numbered Slash = 39
numbered Percent = 40
numbered Pipe = 41
numbered Caret = 42
numbered Ampersand = 43
numbered Question = 44

abbrev pub all : List Punct
all = AddAssign ∷ SubAssign ∷ MulAssign ∷ DivAssign ∷ ModAssign ∷ LeftShiftAssign ∷ RightShiftAssign ∷ AndAssign ∷ XorAssign ∷ OrAssign ∷ Increment ∷ Decrement ∷ LogicalAnd ∷ LogicalOr ∷ LogicalXor ∷ LessEqual ∷ GreaterEqual ∷ EqualEqual ∷ NotEqual ∷ LeftShift ∷ RightShift ∷ LeftBrace ∷ RightBrace ∷ LeftParen ∷ RightParen ∷ LeftBracket ∷ RightBracket ∷ LeftAngle ∷ RightAngle ∷ Semicolon ∷ Comma ∷ Colon ∷ Dot ∷ Equal ∷ Bang ∷ Minus ∷ Tilde ∷ Plus ∷ Star ∷ Slash ∷ Percent ∷ Pipe ∷ Caret ∷ Ampersand ∷ Question ∷ []

abbrev pub punct_numbered : ℕ → Option Punct
punct_numbered n = slice_get all n

abbrev pub punct_known : ℕ → Result Punct UnknownPunct
punct_known n = ok_or (punct_numbered n) (record { number = n })

abbrev pub spelled : Punct → List ℕ
spelled AddAssign = codes "+="
spelled SubAssign = codes "-="
spelled MulAssign = codes "*="
spelled DivAssign = codes "/="
spelled ModAssign = codes "%="
spelled LeftShiftAssign = codes "<<="
spelled RightShiftAssign = codes ">>="
spelled AndAssign = codes "&="
spelled XorAssign = codes "^="
spelled OrAssign = codes "|="
spelled Increment = codes "++"
spelled Decrement = codes "--"
spelled LogicalAnd = codes "&&"
spelled LogicalOr = codes "||"
spelled LogicalXor = codes "^^"
spelled LessEqual = codes "<="
spelled GreaterEqual = codes ">="
spelled EqualEqual = codes "=="
spelled NotEqual = codes "!="
spelled LeftShift = codes "<<"
spelled RightShift = codes ">>"
spelled LeftBrace = codes "{"
spelled RightBrace = codes "}"
spelled LeftParen = codes "("
spelled RightParen = codes ")"
spelled LeftBracket = codes "["
spelled RightBracket = codes "]"
spelled LeftAngle = codes "<"
spelled RightAngle = codes ">"
spelled Semicolon = codes ";"
spelled Comma = codes ","
spelled Colon = codes ":"
spelled Dot = codes "."
spelled Equal = codes "="
spelled Bang = codes "!"
spelled Minus = codes "-"
spelled Tilde = codes "~"
spelled Plus = codes "+"
spelled Star = codes "*"
spelled Slash = codes "/"
spelled Percent = codes "%"
spelled Pipe = codes "|"
spelled Caret = codes "^"
spelled Ampersand = codes "&"
spelled Question = codes "?"
