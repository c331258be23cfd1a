-- Names as a source has them: none begins with a point.
use Rattle.std.specs.Prelude.{◌≡◌, ℕ, nat_eq, List, [], ◌∷◌, Bool, true, false, not}
use Rattle.cl_tree.specs.declared.tree.Form.{Form}
use Rattle.cl_tree.specs.declared.tree.Form.TheVariants as forms
use Rattle.cl_tree.specs.Syntax.{Syntax, node, Forest, none, more}
use Rattle.cl_meaning.specs.Spelling.{name_in}

abbrev pub is_sourced : List ℕ → Bool
is_sourced [] = false
is_sourced (byte ∷ bytes) = not (nat_eq byte 46)

-- the name that a node names
abbrev pub NamedBy : Form → List ℕ → Type 0
NamedBy forms.VariableNode w = is_sourced (name_in w) ≡ true
NamedBy forms.CallNode w = is_sourced (name_in w) ≡ true
NamedBy form w = Unit {0}

-- the words of a tree: those of its leaves and of calls
abbrev mutual
  pub Sourced : Syntax → Type 0
  Sourced (node form w f l none) = is_sourced (name_in w) ≡ true
  Sourced (node form w f l (more p ps)) = NamedBy form w × (Sourced p × AllSourced ps)

  pub AllSourced : Forest → Type 0
  AllSourced none = Unit {0}
  AllSourced (more p ps) = Sourced p × AllSourced ps
