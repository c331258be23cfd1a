-- Conditional statements, loops without heads and switches, as statements of expressions and statements.
use Rattle.std.proofs.Common.{◌≡◌, ℕ, List, [], None, true, refl}
use Rattle.cl_tree.specs.declared.tree.Form.TheVariants as forms
use Rattle.cl_tree.specs.Syntax.{node, Forest}
use Rattle.cl_meaning.specs.Environment.{Env}
use Rattle.cl_meaning.specs.Kinds.{kind_step}
use Rattle.cl_meaning.specs.Visible.{inside, behind, restored, left, kind_of, apart, in_loop, in_switch}
use Rattle.cl_short_vec.specs.declared.roles.Role.TheVariants.{Free}
use Rattle.cl_short_vec.specs.Kinds.{Names}
use Rattle.cl_short_vec.specs.Marks.{marked, marked_parts, kind_by}
use Rattle.cl_short_vec.specs.Roles.{role_of}
use Rattle.cl_short_vec.specs.Faults.{refusals}
use Rattle.cl_short_vec.specs.Unit.{scalarised}
use Rattle.cl_short_vec_faults.specs.PlainForm.{plain_of}
use Rattle.cl_short_vec_faults.specs.Leaves.{LeavesFit, AllLeavesFit}
use Rattle.cl_short_vec_faults.proofs.Refused.{AllStay, parts_stay}
use Rattle.cl_short_vec_faults.proofs.BesideMoves.{beside_apart, beside_loop, beside_switch}
use Rattle.cl_short_vec_faults.proofs.StatementFaults.{if_quiet, while_quiet, do_quiet, switch_quiet}
use Rattle.cl_short_vec_faults.proofs.StatementWalk.{Compound, if_plain, while_plain, do_plain, switch_plain}
use Rattle.cl_short_vec_faults.proofs.StatementWalk.{if_roles, while_roles, do_roles, switch_roles}

if_stays : (names : Names) (w : List ℕ) (f l : ℕ) (parts : Forest) →
    refusals Free (marked names (node forms.IfNode w f l parts)) ≡ [] →
    AllStay (marked_parts forms.IfNode parts names true parts)
unfolding marked kind_by role_of
if_stays names w f l parts r = parts_stay Free _ _ _ (λ x y q. refl) r

if_leaves : (p : Env) (names : Names) (w : List ℕ) (f l : ℕ) (parts : Forest) →
    LeavesFit p (marked names (node forms.IfNode w f l parts)) →
    AllLeavesFit (inside p forms.IfNode w) forms.IfNode true None (marked_parts forms.IfNode parts names true parts)
unfolding marked LeavesFit
if_leaves p names w f l parts h = h.1

pub if_compound : Compound forms.IfNode
unfolding inside behind restored left kind_of kind_step marked scalarised plain_of
if_compound = record {
  quiet = if_quiet;
  plain = if_plain;
  roles' = if_roles;
  enter = apart;
  inside' = λ env w. refl;
  enters = λ asked names n p s h. beside_apart asked names n p s h;
  scopes = λ env. refl;
  functions = λ env. refl;
  body = λ env. refl;
  flags = λ env. refl;
  out = λ env w f l parts. refl;
  form_is = λ names w f l parts. refl;
  plain_is = λ w f l parts. refl;
  stays = if_stays;
  leaves = if_leaves;
  kind = λ env w f l parts. refl;
  listed = λ asked env w f l parts. tt;
}

while_stays : (names : Names) (w : List ℕ) (f l : ℕ) (parts : Forest) →
    refusals Free (marked names (node forms.WhileNode w f l parts)) ≡ [] →
    AllStay (marked_parts forms.WhileNode parts names true parts)
unfolding marked kind_by role_of
while_stays names w f l parts r = parts_stay Free _ _ _ (λ x y q. refl) r

while_leaves : (p : Env) (names : Names) (w : List ℕ) (f l : ℕ) (parts : Forest) →
    LeavesFit p (marked names (node forms.WhileNode w f l parts)) →
    AllLeavesFit (inside p forms.WhileNode w) forms.WhileNode true None (marked_parts forms.WhileNode parts names true
    parts)
unfolding marked LeavesFit
while_leaves p names w f l parts h = h.1

pub while_compound : Compound forms.WhileNode
unfolding inside behind restored left kind_of kind_step marked scalarised plain_of
while_compound = record {
  quiet = while_quiet;
  plain = while_plain;
  roles' = while_roles;
  enter = in_loop;
  inside' = λ env w. refl;
  enters = λ asked names n p s h. beside_loop asked names n p s h;
  scopes = λ env. refl;
  functions = λ env. refl;
  body = λ env. refl;
  flags = λ env. refl;
  out = λ env w f l parts. refl;
  form_is = λ names w f l parts. refl;
  plain_is = λ w f l parts. refl;
  stays = while_stays;
  leaves = while_leaves;
  kind = λ env w f l parts. refl;
  listed = λ asked env w f l parts. tt;
}

do_stays : (names : Names) (w : List ℕ) (f l : ℕ) (parts : Forest) →
    refusals Free (marked names (node forms.DoNode w f l parts)) ≡ [] →
    AllStay (marked_parts forms.DoNode parts names true parts)
unfolding marked kind_by role_of
do_stays names w f l parts r = parts_stay Free _ _ _ (λ x y q. refl) r

do_leaves : (p : Env) (names : Names) (w : List ℕ) (f l : ℕ) (parts : Forest) →
    LeavesFit p (marked names (node forms.DoNode w f l parts)) →
    AllLeavesFit (inside p forms.DoNode w) forms.DoNode true None (marked_parts forms.DoNode parts names true parts)
unfolding marked LeavesFit
do_leaves p names w f l parts h = h.1

pub do_compound : Compound forms.DoNode
unfolding inside behind restored left kind_of kind_step marked scalarised plain_of
do_compound = record {
  quiet = do_quiet;
  plain = do_plain;
  roles' = do_roles;
  enter = in_loop;
  inside' = λ env w. refl;
  enters = λ asked names n p s h. beside_loop asked names n p s h;
  scopes = λ env. refl;
  functions = λ env. refl;
  body = λ env. refl;
  flags = λ env. refl;
  out = λ env w f l parts. refl;
  form_is = λ names w f l parts. refl;
  plain_is = λ w f l parts. refl;
  stays = do_stays;
  leaves = do_leaves;
  kind = λ env w f l parts. refl;
  listed = λ asked env w f l parts. tt;
}

switch_stays : (names : Names) (w : List ℕ) (f l : ℕ) (parts : Forest) →
    refusals Free (marked names (node forms.SwitchNode w f l parts)) ≡ [] →
    AllStay (marked_parts forms.SwitchNode parts names true parts)
unfolding marked kind_by role_of
switch_stays names w f l parts r = parts_stay Free _ _ _ (λ x y q. refl) r

switch_leaves : (p : Env) (names : Names) (w : List ℕ) (f l : ℕ) (parts : Forest) →
    LeavesFit p (marked names (node forms.SwitchNode w f l parts)) →
    AllLeavesFit (inside p forms.SwitchNode w) forms.SwitchNode true None (marked_parts forms.SwitchNode parts names
    true parts)
unfolding marked LeavesFit
switch_leaves p names w f l parts h = h.1

pub switch_compound : Compound forms.SwitchNode
unfolding inside behind restored left kind_of kind_step marked scalarised plain_of
switch_compound = record {
  quiet = switch_quiet;
  plain = switch_plain;
  roles' = switch_roles;
  enter = in_switch;
  inside' = λ env w. refl;
  enters = λ asked names n p s h. beside_switch asked names n p s h;
  scopes = λ env. refl;
  functions = λ env. refl;
  body = λ env. refl;
  flags = λ env. refl;
  out = λ env w f l parts. refl;
  form_is = λ names w f l parts. refl;
  plain_is = λ w f l parts. refl;
  stays = switch_stays;
  leaves = switch_leaves;
  kind = λ env w f l parts. refl;
  listed = λ asked env w f l parts. tt;
}
