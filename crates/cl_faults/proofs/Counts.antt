-- Trees of other numbers of parts name no memory fence.
use Rattle.std.proofs.Common.{ℕ, ◌<◌, ◌≤◌, List, [], ◌∷◌, length, None, false, ◌≡◌, refl, arith}
use Rattle.cl_tree.specs.declared.tree.Tree.{Tree}
use Rattle.cl_tree.specs.declared.tree.Form.TheVariants as forms
use Rattle.cl_tree.specs.Syntax.{node, views}
use Rattle.cl_meaning.specs.Kinds.{flag_of, are_flags, are_flags_alone}

module _ (w : List ℕ) (f l : ℕ) where
  pub no_variable : (ts : List Tree) → 1 ≤ length ts → flag_of (node forms.VariableNode w f l (views ts)) ≡ None
  no_variable [] h = absurd (omega arith)
  no_variable (t ∷ ts) h = refl

  pub none_inside : (ts : List Tree) → length ts < 1 → flag_of (node forms.ParenNode w f l (views ts)) ≡ None
  none_inside [] h = refl
  none_inside (t ∷ ts) h = absurd (omega arith)

  pub two_inside : (ts : List Tree) → 2 ≤ length ts → flag_of (node forms.ParenNode w f l (views ts)) ≡ None
  two_inside [] h = absurd (omega arith)
  two_inside (t ∷ []) h = absurd (omega arith)
  two_inside (t ∷ (u ∷ ts)) h = refl

  pub no_variables : (ts : List Tree) → 1 ≤ length ts → are_flags (node forms.VariableNode w f l (views ts)) ≡ false
  no_variables [] h = absurd (omega arith)
  no_variables (t ∷ ts) h = refl

  pub no_flag_inside : (ts : List Tree) → length ts < 1 → are_flags (node forms.ParenNode w f l (views ts)) ≡ false
  no_flag_inside [] h = refl
  no_flag_inside (t ∷ ts) h = absurd (omega arith)

  pub flags_inside : (ts : List Tree) → 2 ≤ length ts → are_flags (node forms.ParenNode w f l (views ts)) ≡ false
  flags_inside [] h = absurd (omega arith)
  flags_inside (t ∷ []) h = absurd (omega arith)
  flags_inside (t ∷ (u ∷ ts)) h = refl

  pub one_joined : (ts : List Tree) → length ts < 2 → are_flags (node forms.BorNode w f l (views ts)) ≡ false
  one_joined [] h = refl
  one_joined (t ∷ []) h = refl
  one_joined (t ∷ (u ∷ ts)) h = absurd (omega arith)

  pub three_joined : (ts : List Tree) → 3 ≤ length ts → are_flags (node forms.BorNode w f l (views ts)) ≡ false
  three_joined [] h = absurd (omega arith)
  three_joined (t ∷ []) h = absurd (omega arith)
  three_joined (t ∷ (u ∷ [])) h = absurd (omega arith)
  three_joined (t ∷ (u ∷ (v ∷ ts))) h = refl

pub two_alone : (ts : List Tree) → 2 ≤ length ts → are_flags_alone (views ts) ≡ false
two_alone [] h = absurd (omega arith)
two_alone (t ∷ []) h = absurd (omega arith)
two_alone (t ∷ (u ∷ ts)) h = refl

pub ruleset flag_parts =
    (no_variable, none_inside, two_inside, no_variables, no_flag_inside, flags_inside, one_joined, three_joined)
