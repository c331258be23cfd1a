-- What the body of a function holds: nodes, calls and sites.
use Rattle.std.proofs.Common.{◌≡◌, ℕ, zero, suc, ◌+◌, ◌*◌, ◌≤◌, nat_eq, List, length, None, Bool, true, false}
use Rattle.std.proofs.Common.{if◌then◌else◌, refl, ap, ◌∙◌, arith}
use Rattle.wg_num.specs.declared.types.Place.{Place}
use Rattle.cl_model.specs.Tree.{Statements}
use Rattle.cl_tree.specs.declared.tree.Form.{Form}
use Rattle.cl_tree.specs.declared.tree.Form.TheVariants as forms
use Rattle.cl_tree.specs.Syntax.{Syntax, node, Forest, none, more}
use Rattle.cl_limits.specs.Limits.{count_nodes, count_forest}
use Rattle.cl_meaning.specs.Spelling.{name_in}
use Rattle.cl_meaning.specs.Environment.{Env}
use Rattle.cl_meaning.specs.Visible.{inside, later, behind, kind_of, visible_at, in_definition}
use Rattle.cl_meaning.specs.Faults.{Asked}
use Rattle.cl_meaning.specs.Typed.{Built}
use Rattle.cl_meaning.specs.Meant.{meant}
use Rattle.cl_check_sound.specs.Shape.{IsBlock}
use Rattle.cl_check_sound.proofs.Measure.{Weights}
use Rattle.cl_check_sound.proofs.Small.{held}
use Rattle.cl_check_sound.proofs.Holding.{node_calls, extra, extras}
use Rattle.cl_check_sound.proofs.Naming.{calls_nothing}
use Rattle.cl_check_sound.proofs.Weighing.{weigh_all, block_extra}
use Rattle.cl_check_sound.proofs.Sums.{StatementWeighs, LinesWeigh, SwitchWeighs, weighing}
use Rattle.cl_check_sound.proofs.Induction.{of_lines}
use Rattle.cl_check_sound.proofs.Fronts.{Front}
use Rattle.cl_check_sound.proofs.Functions.{bare, body_env, body_is, lines_in, made_lines, typed, marked, within, sound}
use Rattle.cl_check_sound.proofs.Functions.{function_is}

-- nodes alone, calls alone, and one site alone
abbrev pub nodes_alone : Weights
nodes_alone = record { plain = 1; own = λ s. 0; called = λ g. 0; named = λ x. 0 }

abbrev pub calls_alone : (ℕ → ℕ) → Weights
calls_alone c = record { plain = 0; own = λ s. 0; called = c; named = λ x. 0 }

abbrev pub site_alone : ℕ → Weights
site_alone s = record { plain = 0; own = λ t. if nat_eq t s then 1 else 0; called = λ g. 0; named = λ x. 0 }

pub held_zero : (m : Weights) → ((s : ℕ) → m.own s ≡ 0) → (n : ℕ) → held m n ≡ 0
held_zero m h zero = refl
held_zero m h (suc n) = let e = held_zero m h n in let f = h n in omega arith

mutual
  pub nodes_counted : (k : ℕ) (env : Env) (t : Syntax) → extra nodes_alone k env t ≡ 16 * count_nodes t
  nodes_counted k env (node form w f l parts) =
      let a = forest_counted k (inside env form w) form true parts in
      let b = calls_nothing (node_calls (visible_at env (node form w f l parts)) form w) k in
      omega arith

  pub forest_counted : (k : ℕ) (env : Env) (form : Form) (front : Bool) (parts : Forest) →
      extras nodes_alone k env form front parts ≡ 16 * count_forest parts
  forest_counted k env form front none = refl
  forest_counted k env form front (more p ps) =
      let a = nodes_counted k env p in
      let b = forest_counted k (later (behind env p) form front p (kind_of env p)) form false ps in
      omega arith

mutual
  pub site_extra : (s k : ℕ) (env : Env) (t : Syntax) → extra (site_alone s) k env t ≡ 0
  site_extra s k env (node form w f l parts) =
      let a = site_extras s k (inside env form w) form true parts in
      let b = calls_nothing (node_calls (visible_at env (node form w f l parts)) form w) k in
      omega arith

  pub site_extras : (s k : ℕ) (env : Env) (form : Form) (front : Bool) (parts : Forest) →
      extras (site_alone s) k env form front parts ≡ 0
  site_extras s k env form front none = refl
  site_extras s k env form front (more p ps) =
      let a = site_extra s k env p in
      let b = site_extras s k (later (behind env p) form front p (kind_of env p)) form false ps in
      omega arith

block_allows : (m : Weights) (k : ℕ) (eb : Env) (block : Syntax) → IsBlock block → eb.in_body ≡ true →
    extra m k eb block ≡ extras m k (body_env eb) forms.BlockNode true (lines_in block) + (0 + 16 * m.plain)
block_allows m k eb (node forms.BlockNode w f l parts) h e = block_extra m k eb w f l parts ∙
    ap (λ z. extras m k z forms.BlockNode true parts + (0 + 16 * m.plain)) (body_is eb e)
block_allows m k eb block h e = absurd h

module _ (asked : Asked) (u : Env) (sites : List Place) (w : List ℕ) (f l : ℕ) (parts : Forest)
    (fr : Front asked (in_definition u (name_in w)) sites true (bare w) parts) where
  abbrev body : Statements
  body = (typed asked u sites w f l parts fr).body

  pub body_weighs : (m : Weights) (k : ℕ) → ((x : ℕ) → m.named x ≡ 0) → fr.eb.owner.number ≡ k →
      weigh_all m body + held m (length fr.sb) ≤ held m (length (made_lines fr.eb fr.sb fr.block).sites) +
      extra m k fr.eb fr.block
  body_weighs m k z n =
      let sd = sound asked u sites w f l parts fr in
      let x = (of_lines asked (StatementWeighs asked m k z) (LinesWeigh asked m k z) (SwitchWeighs asked m k z)
      (weighing asked m k z) (body_env fr.eb) fr.sb None (lines_in fr.block) sd.0 sd.1).1 true
      (within asked u sites w f l parts fr) n in
      let e = block_allows m k fr.eb fr.block fr.shape (marked asked u sites w f l parts fr) in
      omega arith

  -- the whole function
  function_allows : (m : Weights) (k : ℕ) → extra m k u (node forms.FunctionNode w f l parts) ≡
      extras m k (in_definition u (name_in w)) forms.FunctionNode true parts + (0 + 16 * m.plain)
  unfolding inside
  function_allows m k = refl

  pub function_weighs : (m : Weights) (k : ℕ) → ((x : ℕ) → m.named x ≡ 0) →
      (in_definition u (name_in w)).owner.number ≡ k →
      weigh_all m body + held m (length sites) ≤
      held m (length (meant u sites (node forms.FunctionNode w f l parts)).sites) +
      extra m k u (node forms.FunctionNode w f l parts)
  function_weighs m k z n =
      let a = body_weighs m k z (fr.entered.number ∙ n) in
      let b = fr.weigh m k z n in
      let c = ap (λ (y : Built). held m (length y.sites)) (function_is asked u sites w f l parts fr) in
      let d = function_allows m k in
      omega arith
