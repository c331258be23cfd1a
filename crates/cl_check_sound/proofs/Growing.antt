-- What statements leave: new variables and arrays behind the old ones, and the same scopes.
use Rattle.std.proofs.Common.{◌≡◌, ℕ, List, None, Bool, true, false, refl, sym, subst, inl, inr}
use Rattle.wg_num.specs.declared.types.Place.{Place}
use Rattle.cl_tree.specs.declared.tree.Form.TheVariants as forms
use Rattle.cl_tree.specs.Syntax.{Syntax, node, Forest, none, more}
use Rattle.cl_meaning.specs.declared.kind.Role.{Role}
use Rattle.cl_meaning.specs.declared.kind.Role.TheVariants as roles
use Rattle.cl_meaning.specs.Environment.{Env}
use Rattle.cl_meaning.specs.Visible.{before_labels, behind, behind_parts, kind_of, opened, apart, in_block, in_loop}
use Rattle.cl_meaning.specs.Visible.{in_switch}
use Rattle.cl_meaning.specs.Faults.{Asked}
use Rattle.cl_check_sound.specs.Shape.{IsExpression}
use Rattle.cl_check_sound.specs.Sound.{SoundTree}
use Rattle.cl_check_sound.proofs.Grown.{is_deep, Grown, Kept, grown_same, kept_same, grown_then, kept_then, Within}
use Rattle.cl_check_sound.proofs.Grown.{within_later, closing_plain, closing_opened}
use Rattle.cl_check_sound.proofs.Growth.{declaration_grows, labels_kept, value_kept, simple_leaves, return_leaves}
use Rattle.cl_check_sound.proofs.Growth.{break_leaves, continue_leaves, block_is, like_apart, like_loop, like_switch}
use Rattle.cl_check_sound.proofs.Growth.{like_for, like_block, like_label, within_opened, within_block, within_marked}
use Rattle.cl_check_sound.proofs.Parts.{if_behind, else_behind, while_behind, do_behind, for_behind, for1_behind}
use Rattle.cl_check_sound.proofs.Parts.{for2_behind, at_labels, on_labels, switch_behind, on_behind, case_env}
use Rattle.cl_check_sound.proofs.Parts.{default_env, case_behind, default_behind, block_behind, line_behind}
use Rattle.cl_check_sound.proofs.Induction.{IsFirst, Cases}

-- what is shown of a statement, of lines, and of the statements of a switch
abbrev pub StatementGrows : Env → List Place → Syntax → Type 0
StatementGrows env sites t = Within env → Kept env (behind env t)

abbrev pub LinesGrow : Env → List Place → Forest → Type 0
LinesGrow env sites parts = Within env → (front : Bool) → Grown env (behind_parts env forms.BlockNode front parts)

abbrev pub SwitchGrows : Env → List Place → Forest → Type 0
SwitchGrows env sites parts = Within env → (front : Bool) → Kept env (behind_parts env forms.SwitchNode front parts)

leaves_kept : (env later : Env) → later ≡ env → Kept env later
leaves_kept env later e = subst (λ z. Kept env z) (sym e) (kept_same env)

left_so : (env later z : Env) → later ≡ z → Kept env z → Kept env later
left_so env later z e k = subst (λ x. Kept env x) (sym e) k

pub first_grows : (asked : Asked) (env : Env) (role : Role) (t : Syntax) → IsFirst t → SoundTree asked env role t →
    is_deep env.scopes ≡ true → Grown env (behind env t)
first_grows asked env role t (inl h) s d = declaration_grows asked env role t h s d
first_grows asked env role (node forms.SimpleNode w f l parts) (inr h) s d =
    (leaves_kept env (behind env (node forms.SimpleNode w f l parts)) (simple_leaves env w f l parts h)).grown
first_grows asked env role t (inr h) s d = absurd h

-- behind the statement of a label
label_out : (env i : Env) → Kept env (before_labels env i) →
    Kept env (record (before_labels env i) { labels = i.labels })
label_out env i c = kept_then env (before_labels env i) (record (before_labels env i) { labels = i.labels }) c
    (labels_kept (before_labels env i) i.labels)

block_grows : (env : Env) (w : List ℕ) (f l : ℕ) (parts : Forest) →
    (Within (in_block env) → (front : Bool) →
    Grown (in_block env) (behind_parts (in_block env) forms.BlockNode front parts)) → Within env →
    Kept env (behind env (node forms.BlockNode w f l parts))
block_grows env w f l parts g wi =
    let i = opened (apart env) in
    let g' = subst (λ z. Within z → (front : Bool) → Grown z (behind_parts z forms.BlockNode front parts))
    (block_is env wi.in_block) g in
    left_so env (behind env (node forms.BlockNode w f l parts))
    (before_labels env (behind_parts i forms.BlockNode true parts)) (block_behind env w f l parts wi.in_block)
    (closing_opened env i (behind_parts i forms.BlockNode true parts) (like_block env) refl
    (g' (within_block env wi) true))

else_grows : (env : Env) (w : List ℕ) (f l : ℕ) (c a b : Syntax) → IsExpression c →
    (Within (apart env) → Kept (apart env) (behind (apart env) a)) →
    (Within (behind (apart env) a) → Kept (behind (apart env) a) (behind (behind (apart env) a) b)) → Within env →
    Kept env (behind env (node forms.IfNode w f l (more c (more a (more b none)))))
else_grows env w f l c a b h k k' wi =
    let i = apart env in
    let wa = within_marked env i refl refl wi in
    let x = k wa in
    left_so env (behind env (node forms.IfNode w f l (more c (more a (more b none)))))
    (before_labels env (behind (behind i a) b)) (else_behind env w f l c a b h)
    (closing_plain env i (behind (behind i a) b) (like_apart env) refl
    (kept_then i (behind i a) (behind (behind i a) b) x (k' (within_later i (behind i a) wa x.grown))))

-- a body behind the first part of a `for`
for_grows : (asked : Asked) (env later : Env) (d a : Syntax) → IsFirst d →
    SoundTree asked (opened (in_loop env)) roles.Other d →
    later ≡ before_labels env (behind (behind (opened (in_loop env)) d) a) →
    (Within (behind (opened (in_loop env)) d) →
    Kept (behind (opened (in_loop env)) d) (behind (behind (opened (in_loop env)) d) a)) → Within env → Kept env later
for_grows asked env later d a h s e k wi =
    let i = opened (in_loop env) in
    let g = first_grows asked i _ d h s (within_opened env wi).deep in
    left_so env later (before_labels env (behind (behind i d) a)) e
    (closing_opened env i (behind (behind i d) a) (like_for env) refl
    (grown_then i (behind i d) (behind (behind i d) a) g
    (k (within_later i (behind i d) (within_opened env wi) g)).grown))

switch_grows : (env : Env) (w : List ℕ) (f l : ℕ) (v : Syntax) (ss : Forest) → IsExpression v →
    (Within (at_labels env v) → (front : Bool) →
    Kept (at_labels env v) (behind_parts (at_labels env v) forms.SwitchNode front ss)) → Within env →
    Kept env (behind env (node forms.SwitchNode w f l (more v ss)))
switch_grows env w f l v ss h k wi =
    let i = in_switch env in
    let k0 = value_kept i None (kind_of i v) in
    let wv = within_later i (at_labels env v) (within_marked env i refl refl wi) k0.grown in
    left_so env (behind env (node forms.SwitchNode w f l (more v ss)))
    (before_labels env (behind_parts (at_labels env v) forms.SwitchNode false ss)) (switch_behind env w f l v ss h)
    (closing_plain env i (behind_parts (at_labels env v) forms.SwitchNode false ss) (like_switch env) refl
    (kept_then i (at_labels env v) (behind_parts (at_labels env v) forms.SwitchNode false ss) k0 (k wv false)))

case_grows : (env : Env) (w : List ℕ) (f l : ℕ) (v a : Syntax) → IsExpression v →
    (Within (case_env env v) → Kept (case_env env v) (behind (case_env env v) a)) → Within env →
    Kept env (behind env (node forms.CaseNode w f l (more v (more a none))))
case_grows env w f l v a h k wi =
    let i = case_env env v in
    left_so env (behind env (node forms.CaseNode w f l (more v (more a none))))
    (record (before_labels env (behind i a)) { labels = (behind i a).labels }) (case_behind env w f l v a h)
    (label_out env (behind i a) (closing_plain env i (behind i a) (like_label env i.labels) refl
    (k (within_marked env i refl refl wi))))

default_grows : (env : Env) (w : List ℕ) (f l : ℕ) (a : Syntax) →
    (Within (default_env env) → Kept (default_env env) (behind (default_env env) a)) → Within env →
    Kept env (behind env (node forms.DefaultNode w f l (more a none)))
default_grows env w f l a k wi =
    let i = default_env env in
    left_so env (behind env (node forms.DefaultNode w f l (more a none)))
    (record (before_labels env (behind i a)) { labels = (behind i a).labels }) (default_behind env w f l a)
    (label_out env (behind i a) (closing_plain env i (behind i a) (like_label env i.labels) refl
    (k (within_marked env i refl refl wi))))

no_parts : (env : Env) (front : Bool) → behind_parts env forms.BlockNode front none ≡ env
unfolding behind_parts
no_parts env front = refl

no_statements : (env : Env) (front : Bool) → behind_parts env forms.SwitchNode front none ≡ env
unfolding behind_parts
no_statements env front = refl

line_grown : (env : Env) (p : Syntax) (ps : Forest) → Grown env (behind env p) →
    (Within (behind env p) → (front : Bool) →
    Grown (behind env p) (behind_parts (behind env p) forms.BlockNode front ps)) → Within env → (front : Bool) →
    Grown env (behind_parts env forms.BlockNode front (more p ps))
line_grown env p ps g q wi front =
    subst (λ z. Grown env z) (sym (line_behind env front p ps))
    (grown_then env (behind env p) (behind_parts (behind env p) forms.BlockNode false ps) g
    (q (within_later env (behind env p) wi g) false))

statement_grown : (env : Env) (p : Syntax) (ps : Forest) → (Within env → Kept env (behind env p)) →
    (Within (on_labels env p) → (front : Bool) →
    Kept (on_labels env p) (behind_parts (on_labels env p) forms.SwitchNode front ps)) → Within env →
    (front : Bool) → Kept env (behind_parts env forms.SwitchNode front (more p ps))
statement_grown env p ps k q wi front =
    let k1 = kept_then env (behind env p) (on_labels env p) (k wi) (value_kept (behind env p) (behind env p).labels
    (kind_of env p)) in
    left_so env (behind_parts env forms.SwitchNode front (more p ps)) (behind_parts (on_labels env p) forms.SwitchNode
    false ps) (on_behind env front p ps)
    (kept_then env (on_labels env p) (behind_parts (on_labels env p) forms.SwitchNode false ps) k1
    (q (within_later env (on_labels env p) wi k1.grown) false))

pub growing : (asked : Asked) → Cases asked StatementGrows LinesGrow SwitchGrows
growing asked = record {
  block = λ env sites w f l parts g. block_grows env w f l parts g;
  idle = λ env sites w f l wi. leaves_kept env (behind env (node forms.SimpleNode w f l none))
      (simple_leaves env w f l none tt);
  simple = λ env sites w f l e h s wi. leaves_kept env (behind env (node forms.SimpleNode w f l (more e none)))
      (simple_leaves env w f l (more e none) h);
  if_one = λ env sites w f l c a h s k wi. left_so env (behind env (node forms.IfNode w f l (more c (more a none))))
      (before_labels env (behind (apart env) a)) (if_behind env w f l c a h)
      (closing_plain env (apart env) (behind (apart env) a) (like_apart env) refl
      (k (within_marked env (apart env) refl refl wi)));
  if_else = λ env sites w f l c a b h s k k' wi. else_grows env w f l c a b h k k' wi;
  while = λ env sites w f l c a h s k wi. left_so env (behind env (node forms.WhileNode w f l (more c (more a none))))
      (before_labels env (behind (in_loop env) a)) (while_behind env w f l c a h)
      (closing_plain env (in_loop env) (behind (in_loop env) a) (like_loop env) refl
      (k (within_marked env (in_loop env) refl refl wi)));
  do_while = λ env sites w f l a c h k s wi. left_so env (behind env (node forms.DoNode w f l (more a (more c none))))
      (before_labels env (behind (in_loop env) a)) (do_behind env w f l a c h)
      (closing_plain env (in_loop env) (behind (in_loop env) a) (like_loop env) refl
      (k (within_marked env (in_loop env) refl refl wi)));
  for_ever = λ env sites w f l d a h s k wi.
      for_grows asked env (behind env (node forms.ForNode w f l (more d (more a none)))) d a h s
      (for_behind env w f l d a) k wi;
  for_one = λ env sites w f l d e a h s he se k wi.
      for_grows asked env (behind env (node forms.ForNode w f l (more d (more e (more a none))))) d a h s
      (for1_behind env w f l d e a he) k wi;
  for_both = λ env sites w f l d c e a h s hc sc he se k wi.
      for_grows asked env (behind env (node forms.ForNode w f l (more d (more c (more e (more a none)))))) d a h s
      (for2_behind env w f l d c e a hc he) k wi;
  switch = λ env sites w f l v ss h s k wi. switch_grows env w f l v ss h k wi;
  case = λ env sites role w f l v a h s n k wi. case_grows env w f l v a h k wi;
  default = λ env sites role w f l a n k wi. default_grows env w f l a k wi;
  break = λ env sites role w f l n wi. leaves_kept env (behind env (node forms.BreakNode w f l none))
      (break_leaves env w f l);
  continue = λ env sites role w f l n wi. leaves_kept env (behind env (node forms.ContinueNode w f l none))
      (continue_leaves env w f l);
  return0 = λ env sites role w f l n wi. leaves_kept env (behind env (node forms.ReturnNode w f l none))
      (return_leaves env w f l none tt);
  return1 = λ env sites role w f l e h s n wi.
      leaves_kept env (behind env (node forms.ReturnNode w f l (more e none)))
      (return_leaves env w f l (more e none) h);
  no_line = λ env sites wi front. subst (λ z. Grown env z) (sym (no_parts env front)) (grown_same env);
  declared =
      λ env sites d ps h s q wi front. line_grown env d ps (declaration_grows asked env _ d h s wi.deep) q wi front;
  line = λ env sites t ps k q wi front. line_grown env t ps (k wi).grown q wi front;
  no_statement = λ env sites wi front. left_so env (behind_parts env forms.SwitchNode front none) env
      (no_statements env front) (kept_same env);
  statement = λ env sites t ps k q wi front. statement_grown env t ps k q wi front;
}
