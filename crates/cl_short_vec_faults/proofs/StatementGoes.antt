-- All statements go on side by side.
use Rattle.std.proofs.Common.{◌≡◌, None, Some, true, false, refl, inl, inr}
use Rattle.cl_tree.specs.declared.tree.Form.TheVariants as forms
use Rattle.cl_tree.specs.Syntax.{Syntax, node, Forest, none, more}
use Rattle.cl_meaning.specs.declared.kind.Role.TheVariants as roles
use Rattle.cl_meaning.specs.Visible.{is_front, role_of}
use Rattle.cl_check_sound.specs.Shape.{AreStatementsOf}
use Rattle.cl_short_vec.specs.declared.roles.Role.TheVariants.{Head}
use Rattle.cl_short_vec_faults.proofs.Following.{DeclarationsFollow, HeadsFollow, StatementsFollow}
use Rattle.cl_short_vec_faults.proofs.StatementParts.{Goes, Mixed, AllGo}
use Rattle.cl_short_vec_faults.proofs.StatementWalk.{compound_go}
use Rattle.cl_short_vec_faults.proofs.StatementForms.{if_compound, while_compound, do_compound, switch_compound}
use Rattle.cl_short_vec_faults.proofs.StatementSingles.{break_goes, continue_goes, return_nothing, return_value}
use Rattle.cl_short_vec_faults.proofs.StatementLabels.{default_goes, case_goes}
use Rattle.cl_short_vec_faults.proofs.StatementBlocks.{block_goes, goes_on}
use Rattle.cl_short_vec_faults.proofs.StatementSimples.{simple_goes}
use Rattle.cl_short_vec_faults.proofs.StatementLoops.{for_goes}

-- ---- which parts are tested

-- behind the value of a switch all parts are statements, and none is tested
switched : (ss : Forest) → AreStatementsOf true ss → Mixed forms.SwitchNode false ss
switched none h = tt
switched (more s ss) h = (inr (h.0, not_first), switched ss h.1)
  where
    not_first : (b : _) (q : Syntax) → is_front b ≡ false → role_of forms.SwitchNode b q ≡ roles.Other
    not_first None q e = absurd cc
    not_first (Some l) q e = refl

-- behind the test
if_later : (b : _) (q : Syntax) → is_front b ≡ false → role_of forms.IfNode b q ≡ roles.Other
if_later None q e = absurd cc
if_later (Some l) q e = refl

while_later : (b : _) (q : Syntax) → is_front b ≡ false → role_of forms.WhileNode b q ≡ roles.Other
while_later None q e = absurd cc
while_later (Some l) q e = refl

-- in front of the test
do_first : (b : _) (q : Syntax) → is_front b ≡ true → role_of forms.DoNode b q ≡ roles.Other
do_first None q e = refl
do_first (Some l) q e = absurd cc

-- ---- the walk

module _ (declarations : DeclarationsFollow) (heads : HeadsFollow Head) where
  mutual
    pub goes : (t : Syntax) → Goes t
    goes (node forms.BlockNode w f l ps) asked names n p s e h =
        block_goes declarations asked names n p s w f l ps e (all_go ps) h
    goes (node forms.SimpleNode w f l ps) asked names n p s e h = simple_goes asked names n p s w f l ps e h
    goes (node forms.IfNode w f l (more c (more t none))) asked names n p s e h =
        compound_go forms.IfNode if_compound asked names n p s w f l (more c (more t none))
        (inl e.0, (inr (e.1, if_later), tt)) (all_go (more c (more t none))) h
    goes (node forms.IfNode w f l (more c (more t (more u none)))) asked names n p s e h =
        compound_go forms.IfNode if_compound asked names n p s w f l (more c (more t (more u none)))
        (inl e.0, (inr (e.1, if_later), (inr (e.2, if_later), tt))) (all_go (more c (more t (more u none)))) h
    goes (node forms.WhileNode w f l (more c (more t none))) asked names n p s e h =
        compound_go forms.WhileNode while_compound asked names n p s w f l (more c (more t none))
        (inl e.0, (inr (e.1, while_later), tt)) (all_go (more c (more t none))) h
    goes (node forms.DoNode w f l (more t (more c none))) asked names n p s e h =
        compound_go forms.DoNode do_compound asked names n p s w f l (more t (more c none))
        (inr (e.0, do_first), (inl e.1, tt)) (all_go (more t (more c none))) h
    goes (node forms.ForNode w f l ps) asked names n p s e h =
        for_goes heads asked names n p s w f l ps e (all_go ps) h
    goes (node forms.SwitchNode w f l (more v ss)) asked names n p s e h =
        compound_go forms.SwitchNode switch_compound asked names n p s w f l (more v ss)
        (inl e.0, switched ss e.1) (all_go (more v ss)) h
    goes (node forms.CaseNode w f l (more v (more a none))) asked names n p s e h =
        case_goes asked names n p s w f l v a e.0 e.1 (goes a) h
    goes (node forms.DefaultNode w f l (more a none)) asked names n p s e h =
        default_goes asked names n p s w f l a e (goes a) h
    goes (node forms.BreakNode w f l none) asked names n p s e h = break_goes asked names n p s w f l h
    goes (node forms.ContinueNode w f l none) asked names n p s e h = continue_goes asked names n p s w f l h
    goes (node forms.ReturnNode w f l none) asked names n p s e h = return_nothing asked names n p s w f l h
    goes (node forms.ReturnNode w f l (more a none)) asked names n p s e h =
        return_value asked names n p s w f l a e h
    goes t asked names n p s e h = absurd e

    all_go : (ps : Forest) → AllGo ps
    all_go none = tt
    all_go (more p ps) = (goes p, all_go ps)

  pub statements_follow : StatementsFollow
  statements_follow asked names n p s t = goes_on t (goes t) asked names n p s
