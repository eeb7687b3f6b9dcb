-- What each operator makes of its operands.
-- operator_level p: the level of a binary operator; place o: its number, from 1 for the tightest to 10 for the loosest, 0 for none
-- flag b: 1 or 0; eq_z a b: equal values; fitted e z: z if it fits 64 bits, else the error; shift b f: f at a count from 0 to 63, else overflow
-- calc p a b: what the binary operator p makes of a and b; op_in k v: the operator of level k that a value is
-- sign_of p, sign_in v: the unary operator that a punctuation, a value is; signed s v: what it makes of v
use Rattle.std.specs.Prelude.{ℕ, ◌*◌, ◌%◌, ◌^◌, Bool, true, false, cond, not, ℤ, pos, negsuc, ◌+ℤ◌, ◌-ℤ◌, ◌*ℤ◌, neg_ℤ, Some, None, Ok, Err, Option, Result, ◌==◌, bit_and, bit_or, bit_xor, int_div, int_le, int_lt, int_rem, nat_lt}
use Rattle.std.specs.Int.Signed.{mag, shr_z}
use Rattle.std.specs.Int.{w64}
use Rattle.std.proofs.Common.{of_z, to_z}
use Rattle.tokens.specs.declared.fault.PreprocessorError.{PreprocessorError}
use Rattle.tokens.specs.declared.fault.PreprocessorError.TheVariants.{IntegerOverflow, DivisionByZero}
use Rattle.tokens.specs.declared.token.TokenValue.{TokenValue}
use Rattle.tokens.specs.declared.token.TokenValue.TheVariants as value
use Rattle.tokens.specs.declared.punct.Punct.{Punct}
use Rattle.tokens.specs.declared.punct.Punct.TheVariants as punct
use Rattle.operators.specs.declared.Level.{Level}
use Rattle.operators.specs.declared.Level.TheVariants as level
use Rattle.operators.specs.declared.Sign.{Sign}
use Rattle.operators.specs.declared.Sign.TheVariants as sign

abbrev pub operator_level : Punct → Option Level
operator_level punct.AddAssign = None
operator_level punct.SubAssign = None
operator_level punct.MulAssign = None
operator_level punct.DivAssign = None
operator_level punct.ModAssign = None
operator_level punct.LeftShiftAssign = None
operator_level punct.RightShiftAssign = None
operator_level punct.AndAssign = None
operator_level punct.XorAssign = None
operator_level punct.OrAssign = None
operator_level punct.Increment = None
operator_level punct.Decrement = None
operator_level punct.LogicalAnd = Some level.LogicalAnd
operator_level punct.LogicalOr = Some level.LogicalOr
operator_level punct.LogicalXor = None
operator_level punct.LessEqual = Some level.Comparative
operator_level punct.GreaterEqual = Some level.Comparative
operator_level punct.EqualEqual = Some level.Equality
operator_level punct.NotEqual = Some level.Equality
operator_level punct.LeftShift = Some level.Shift
operator_level punct.RightShift = Some level.Shift
operator_level punct.LeftBrace = None
operator_level punct.RightBrace = None
operator_level punct.LeftParen = None
operator_level punct.RightParen = None
operator_level punct.LeftBracket = None
operator_level punct.RightBracket = None
operator_level punct.LeftAngle = Some level.Comparative
operator_level punct.RightAngle = Some level.Comparative
operator_level punct.Semicolon = None
operator_level punct.Comma = None
operator_level punct.Colon = None
operator_level punct.Dot = None
operator_level punct.Equal = None
operator_level punct.Bang = None
operator_level punct.Minus = Some level.Additive
operator_level punct.Tilde = None
operator_level punct.Plus = Some level.Additive
operator_level punct.Star = Some level.Multiplicative
operator_level punct.Slash = Some level.Multiplicative
operator_level punct.Percent = Some level.Multiplicative
operator_level punct.Pipe = Some level.BitOr
operator_level punct.Caret = Some level.BitXor
operator_level punct.Ampersand = Some level.BitAnd
operator_level punct.Question = None

-- a level's place, from 1 for the tightest to 10 for the loosest; 0 for none
abbrev pub place : Option Level → ℕ
place None = 0
place (Some level.Multiplicative) = 1
place (Some level.Additive) = 2
place (Some level.Shift) = 3
place (Some level.Comparative) = 4
place (Some level.Equality) = 5
place (Some level.BitAnd) = 6
place (Some level.BitXor) = 7
place (Some level.BitOr) = 8
place (Some level.LogicalAnd) = 9
place (Some level.LogicalOr) = 10

abbrev pub flag : Bool → ℤ
flag b = cond b (pos 1) (pos 0)

abbrev pub eq_z : ℤ → ℤ → Bool
eq_z a b = of_z w64 a == of_z w64 b

-- a value that fits 64 bits, else the error
abbrev pub fitted : PreprocessorError → ℤ → Result ℤ PreprocessorError
fitted e z = cond (nat_lt (mag z) (2 ^ 63)) (Ok z) (Err e)

abbrev pub or : Bool → Bool → Bool
or a b = cond a true b

abbrev pub and : Bool → Bool → Bool
and a b = cond a b false

abbrev pub shift : ℤ → (ℕ → ℤ) → Result ℤ PreprocessorError
shift (pos n) f = cond (nat_lt n 64) (Ok (f n)) (Err IntegerOverflow)
shift (negsuc n) f = Err IntegerOverflow

abbrev pub calc : Punct → ℤ → ℤ → Result ℤ PreprocessorError
calc punct.AddAssign a b = Ok b
calc punct.SubAssign a b = Ok b
calc punct.MulAssign a b = Ok b
calc punct.DivAssign a b = Ok b
calc punct.ModAssign a b = Ok b
calc punct.LeftShiftAssign a b = Ok b
calc punct.RightShiftAssign a b = Ok b
calc punct.AndAssign a b = Ok b
calc punct.XorAssign a b = Ok b
calc punct.OrAssign a b = Ok b
calc punct.Increment a b = Ok b
calc punct.Decrement a b = Ok b
calc punct.LogicalAnd a b = Ok (flag (and (not (eq_z a (pos 0))) (not (eq_z b (pos 0)))))
calc punct.LogicalOr a b = Ok (flag (or (not (eq_z a (pos 0))) (not (eq_z b (pos 0)))))
calc punct.LogicalXor a b = Ok b
calc punct.LessEqual a b = Ok (flag (int_le a b))
calc punct.GreaterEqual a b = Ok (flag (int_le b a))
calc punct.EqualEqual a b = Ok (flag (eq_z a b))
calc punct.NotEqual a b = Ok (flag (not (eq_z a b)))
calc punct.LeftShift a b = shift b (λ n. to_z w64 ((of_z w64 a * 2 ^ n) % 2 ^ 64))
calc punct.RightShift a b = shift b (λ n. shr_z a (2 ^ n))
calc punct.LeftBrace a b = Ok b
calc punct.RightBrace a b = Ok b
calc punct.LeftParen a b = Ok b
calc punct.RightParen a b = Ok b
calc punct.LeftBracket a b = Ok b
calc punct.RightBracket a b = Ok b
calc punct.LeftAngle a b = Ok (flag (int_lt a b))
calc punct.RightAngle a b = Ok (flag (int_lt b a))
calc punct.Semicolon a b = Ok b
calc punct.Comma a b = Ok b
calc punct.Colon a b = Ok b
calc punct.Dot a b = Ok b
calc punct.Equal a b = Ok b
calc punct.Bang a b = Ok b
calc punct.Minus a b = fitted IntegerOverflow (a -ℤ b)
calc punct.Tilde a b = Ok b
calc punct.Plus a b = fitted IntegerOverflow (a +ℤ b)
calc punct.Star a b = fitted IntegerOverflow (a *ℤ b)
calc punct.Slash a b = cond (eq_z b (pos 0)) (Err DivisionByZero) (fitted DivisionByZero (int_div a b))
calc punct.Percent a b = cond (eq_z b (pos 0)) (Err DivisionByZero) (cond (nat_lt (mag (int_div a b)) (2 ^ 63)) (Ok (int_rem a b)) (Err DivisionByZero))
calc punct.Pipe a b = Ok (to_z w64 (bit_or (of_z w64 a) (of_z w64 b)))
calc punct.Caret a b = Ok (to_z w64 (bit_xor (of_z w64 a) (of_z w64 b)))
calc punct.Ampersand a b = Ok (to_z w64 (bit_and (of_z w64 a) (of_z w64 b)))
calc punct.Question a b = Ok b

-- the operator of level k that a value is, if it is one
abbrev pub op_in : Level → TokenValue → Option Punct
op_in k (value.Ident n) = None
op_in k (value.Integer i) = None
op_in k (value.Float f) = None
op_in k (value.Punct p) = cond (place (operator_level p) == place (Some k)) (Some p) None
op_in k (value.Version v) = None
op_in k (value.Extension e) = None
op_in k (value.Pragma p) = None

-- the unary operators
abbrev pub sign_of : Punct → Option Sign
sign_of punct.AddAssign = None
sign_of punct.SubAssign = None
sign_of punct.MulAssign = None
sign_of punct.DivAssign = None
sign_of punct.ModAssign = None
sign_of punct.LeftShiftAssign = None
sign_of punct.RightShiftAssign = None
sign_of punct.AndAssign = None
sign_of punct.XorAssign = None
sign_of punct.OrAssign = None
sign_of punct.Increment = None
sign_of punct.Decrement = None
sign_of punct.LogicalAnd = None
sign_of punct.LogicalOr = None
sign_of punct.LogicalXor = None
sign_of punct.LessEqual = None
sign_of punct.GreaterEqual = None
sign_of punct.EqualEqual = None
sign_of punct.NotEqual = None
sign_of punct.LeftShift = None
sign_of punct.RightShift = None
sign_of punct.LeftBrace = None
sign_of punct.RightBrace = None
sign_of punct.LeftParen = None
sign_of punct.RightParen = None
sign_of punct.LeftBracket = None
sign_of punct.RightBracket = None
sign_of punct.LeftAngle = None
sign_of punct.RightAngle = None
sign_of punct.Semicolon = None
sign_of punct.Comma = None
sign_of punct.Colon = None
sign_of punct.Dot = None
sign_of punct.Equal = None
sign_of punct.Bang = Some sign.Not
sign_of punct.Minus = Some sign.Minus
sign_of punct.Tilde = Some sign.Complement
sign_of punct.Plus = Some sign.Plus
sign_of punct.Star = None
sign_of punct.Slash = None
sign_of punct.Percent = None
sign_of punct.Pipe = None
sign_of punct.Caret = None
sign_of punct.Ampersand = None
sign_of punct.Question = None

abbrev pub sign_in : TokenValue → Option Sign
sign_in (value.Ident n) = None
sign_in (value.Integer i) = None
sign_in (value.Float f) = None
sign_in (value.Punct p) = sign_of p
sign_in (value.Version v) = None
sign_in (value.Extension e) = None
sign_in (value.Pragma p) = None

-- what a unary operator makes of its operand
abbrev pub signed : Sign → ℤ → Result ℤ PreprocessorError
signed sign.Plus v = Ok v
signed sign.Minus v = fitted IntegerOverflow (neg_ℤ v)
signed sign.Not v = Ok (flag (eq_z v (pos 0)))
signed sign.Complement v = Ok (neg_ℤ v -ℤ pos 1)
