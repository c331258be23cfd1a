-- Trees as plain values: what a contract sees of a tree.
use Rattle.std.specs.Prelude.{ℕ, suc, zero, max, List, [], ◌∷◌, map}
use Rattle.cl_tree.specs.declared.tree.Form.{Form}
use Rattle.cl_tree.specs.declared.tree.Tree.{Tree}
use Rattle.cl_tree.specs.declared.tree.Tree.TheOpen.{Tree-F}
use Rattle.cl_tree.specs.declared.tree.Tree.TheFolds.{fold-Tree}

mutual
  pub data Syntax : Type 0 where
    node : (form : Form) (word : List ℕ) (first last : ℕ) (parts : Forest) → Syntax

  pub data Forest : Type 0 where
    none : Forest
    more : (part : Syntax) (others : Forest) → Forest

abbrev pub forest : List Syntax → Forest
forest [] = none
forest (t ∷ ts) = more t (forest ts)

-- one node, with the plain value of each part in its place
abbrev pub view_step : Tree-F Syntax → Syntax
view_step x = node x.form x.word x.first x.last (forest x.parts.items)

-- the plain value of a tree
abbrev pub view : Tree → Syntax
view = fold-Tree Syntax view_step

abbrev pub views : List Tree → Forest
views ts = forest (map view ts)

-- The nesting of a tree: how many nodes lie on the longest way down from its root, both ends counted.
abbrev mutual
  pub nesting : Syntax → ℕ
  nesting (node form word first last parts) = suc (deepest parts)

  pub deepest : Forest → ℕ
  deepest none = zero
  deepest (more part others) = max (nesting part) (deepest others)

abbrev pub first_of : Syntax → ℕ
first_of (node form word first last parts) = first

abbrev pub last_of : Syntax → ℕ
last_of (node form word first last parts) = last

-- the number of the first token of some trees, or else the given one
abbrev pub first_in : Forest → ℕ → ℕ
first_in none n = n
first_in (more t ts) n = first_of t

-- the number of the last token of some trees, or else the given one
abbrev pub last_in : Forest → ℕ → ℕ
last_in none n = n
last_in (more t ts) n = last_in ts (last_of t)

-- the trees of two lists, one behind the other
abbrev pub joined : Forest → Forest → Forest
joined none us = us
joined (more t ts) us = more t (joined ts us)
