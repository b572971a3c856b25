-- The tree that the plain rule makes of records, over any digest function, and the turns from its root to a record.
use Rattle.std.specs.Prelude.{◌≡◌, true, false, List, [], ◌∷◌, ℕ, ◌+◌, ◌-◌, ◌<◌, ltb, eqb, length, get_or}
use Rattle.shape.specs.Tree.{Tree, tip, fork, Turn, left, root}
use Rattle.shape.specs.Letter.{rightward, Leads}
use Rattle.plain_rule.specs.Rule.{Split, one, more, plain_root}

-- a record's digest, or two sides; its root is the rule's (`tree_root`)
abbrev pub plain_tree : (List ℕ → List ℕ) → {rs : List (List ℕ)} → Split rs → Tree
plain_tree digest (one r) = tip (digest r)
plain_tree digest (more rs m p l r) = fork (plain_tree digest l) (plain_tree digest r)

-- the turns to the record at index i (`turns_lead`): left among the first m, and otherwise right, which is `right` where both sides have m records
-- and else `past`
abbrev pub turns : {rs : List (List ℕ)} → Split rs → ℕ → List Turn
turns (one r) i = []
turns (more rs m p l r) i =
    elim (ltb i m) [ true ↦ left ∷ turns l i | false ↦ rightward (eqb (length rs) (m + m)) ∷ turns r (i - m) ]

-- `tree_root`: the root of the tree is the rule's ..
abbrev pub TreeRoot : Type 0
TreeRoot = (digest : List ℕ → List ℕ) (rs : List (List ℕ)) (s : Split rs) → root digest (plain_tree digest s) ≡ plain_root digest s

-- `turns_lead`: .. and the turns lead to the record's digest
abbrev pub TurnsLead : Type 0
TurnsLead =
    (digest : List ℕ → List ℕ) (rs : List (List ℕ)) (s : Split rs) (i : ℕ) → i < length rs
    → Leads (plain_tree digest s) (turns s i) (digest (get_or rs i []))
