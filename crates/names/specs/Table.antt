-- fixed: the words of a fresh table, as 0 to 14
use Rattle.std.specs.Prelude.{ℕ, List, [], ◌∷◌, codes}

abbrev pub fixed : List (List ℕ)
fixed = codes "error" ∷ codes "line" ∷ codes "define" ∷ codes "undef" ∷ codes "if" ∷ codes "ifdef" ∷ codes "ifndef" ∷ codes "elif" ∷ codes "else" ∷ codes "endif" ∷ codes "version" ∷ codes "extension" ∷ codes "pragma" ∷ codes "defined" ∷ codes "__LINE__" ∷ []
