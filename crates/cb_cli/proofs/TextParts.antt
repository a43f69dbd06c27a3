-- Texts of several parts, joined from the end.
use Rattle.std.proofs.Common.{◌≡◌, ℕ, List, ◌++◌, append_assoc}
use Rattle.std.specs.Prelude.{codes}

-- the parts of the text of a fault
pub fault_parts : (line number word : List ℕ)
    → codes "script line " ++ line ++ codes " reason " ++ number ++ codes " " ++ word ++ codes "\n" ≡ codes "script line " ++ (line ++ (codes " reason " ++ (number ++ (codes " " ++ (word ++ codes "\n")))))
fault_parts line number word = simp append_assoc

-- the parts of the text of a check
pub check_parts : (lines lanes : List ℕ)
    → codes "script ok lines " ++ lines ++ codes " lanes " ++ lanes ++ codes "\n" ≡ codes "script ok lines " ++ (lines ++ (codes " lanes " ++ (lanes ++ codes "\n")))
check_parts lines lanes = simp append_assoc
