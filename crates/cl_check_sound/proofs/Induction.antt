-- Induction over the statements of a block in which no node is at fault.
use Rattle.std.proofs.Common.{ℕ, List, None, Some, inl, inr, ◌⊎◌}
use Rattle.wg_num.specs.declared.types.Place.{Place}
use Rattle.cl_tree.specs.declared.tree.Form.TheVariants as forms
use Rattle.cl_tree.specs.Syntax.{Syntax, node, Forest, none, more, last_of}
use Rattle.cl_meaning.specs.declared.kind.Role.{Role}
use Rattle.cl_meaning.specs.declared.kind.Role.TheVariants as roles
use Rattle.cl_meaning.specs.Environment.{Env}
use Rattle.cl_meaning.specs.Visible.{Before, inside, behind, opened, apart, in_block, in_loop, in_switch}
use Rattle.cl_meaning.specs.Faults.{Asked, Sound}
use Rattle.cl_meaning.specs.Meant.{meant}
use Rattle.cl_check_sound.specs.Shape.{IsExpression, IsDeclaration, IsSimple, IsOptional, IsStatement, AreStatements}
use Rattle.cl_check_sound.specs.Shape.{AreLines}
use Rattle.cl_check_sound.specs.Sound.{SoundTree, SoundParts}
use Rattle.cl_check_sound.proofs.Parts.{if_sound, else_sound, while_sound, do_sound, for_role, for_sound, for1_sound}
use Rattle.cl_check_sound.proofs.Parts.{for2_sound, at_labels, on_labels, switch_sound, on_sound, case_env, default_env}
use Rattle.cl_check_sound.proofs.Parts.{case_sound, default_sound, line_sound, simple_sound, return_sound}

-- the node itself is not at fault
abbrev pub SoundNode : Asked → Env → Role → Syntax → Type 0
SoundNode asked env role t = Sound asked (record { visible = env; role = role; tree = t })

abbrev pub IsFirst : Syntax → Type 0
IsFirst t = IsDeclaration t ⊎ IsSimple t

-- what is to be shown of statements, of the lines of a block and of the statements of a switch, for each production
pub record Cases (asked : Asked) (S : Env → List Place → Syntax → Type 0) (B L : Env → List Place → Forest →
    Type 0) : Type 0 where
  pub block : (env : Env) (sites : List Place) (w : List ℕ) (f l : ℕ) (parts : Forest) →
      B (in_block env) sites parts → S env sites (node forms.BlockNode w f l parts)
  pub idle : (env : Env) (sites : List Place) (w : List ℕ) (f l : ℕ) → S env sites (node forms.SimpleNode w f l none)
  pub simple : (env : Env) (sites : List Place) (w : List ℕ) (f l : ℕ) (e : Syntax) → IsExpression e →
      SoundTree asked env roles.Whole e → S env sites (node forms.SimpleNode w f l (more e none))
  pub if_one : (env : Env) (sites : List Place) (w : List ℕ) (f l : ℕ) (c a : Syntax) → IsExpression c →
      SoundTree asked (apart env) roles.Tested c → S (apart env) (meant (apart env) sites c).sites a →
      S env sites (node forms.IfNode w f l (more c (more a none)))
  pub if_else : (env : Env) (sites : List Place) (w : List ℕ) (f l : ℕ) (c a b : Syntax) → IsExpression c →
      SoundTree asked (apart env) roles.Tested c → S (apart env) (meant (apart env) sites c).sites a
      → S (behind (apart env) a) (meant (apart env) (meant (apart env) sites c).sites a).sites b →
      S env sites (node forms.IfNode w f l (more c (more a (more b none))))
  pub while : (env : Env) (sites : List Place) (w : List ℕ) (f l : ℕ) (c a : Syntax) → IsExpression c →
      SoundTree asked (in_loop env) roles.Tested c → S (in_loop env) (meant (in_loop env) sites c).sites a →
      S env sites (node forms.WhileNode w f l (more c (more a none)))
  pub do_while : (env : Env) (sites : List Place) (w : List ℕ) (f l : ℕ) (a c : Syntax) → IsExpression c →
      S (in_loop env) sites a → SoundTree asked (behind (in_loop env) a) roles.Tested c →
      S env sites (node forms.DoNode w f l (more a (more c none)))
  pub for_ever : (env : Env) (sites : List Place) (w : List ℕ) (f l : ℕ) (d a : Syntax) → IsFirst d →
      SoundTree asked (opened (in_loop env)) roles.Other d
      → S (behind (opened (in_loop env)) d) (meant (opened (in_loop env)) sites d).sites a →
      S env sites (node forms.ForNode w f l (more d (more a none)))
  pub for_one : (env : Env) (sites : List Place) (w : List ℕ) (f l : ℕ) (d e a : Syntax) → IsFirst d →
      SoundTree asked (opened (in_loop env)) roles.Other d → IsExpression e →
      SoundTree asked (behind (opened (in_loop env)) d) (for_role d e) e
      → S (behind (opened (in_loop env)) d)
      (meant (behind (opened (in_loop env)) d) (meant (opened (in_loop env)) sites d).sites e).sites a →
      S env sites (node forms.ForNode w f l (more d (more e (more a none))))
  pub for_both : (env : Env) (sites : List Place) (w : List ℕ) (f l : ℕ) (d c e a : Syntax) → IsFirst d →
      SoundTree asked (opened (in_loop env)) roles.Other d → IsExpression c →
      SoundTree asked (behind (opened (in_loop env)) d) (for_role d c) c → IsExpression e →
      SoundTree asked (behind (opened (in_loop env)) d) (for_role c e) e
      → S (behind (opened (in_loop env)) d)
      (meant (behind (opened (in_loop env)) d)
      (meant (behind (opened (in_loop env)) d) (meant (opened (in_loop env)) sites d).sites c).sites e).sites
      a → S env sites (node forms.ForNode w f l (more d (more c (more e (more a none)))))
  pub switch : (env : Env) (sites : List Place) (w : List ℕ) (f l : ℕ) (v : Syntax) (ss : Forest) → IsExpression v →
      SoundTree asked (in_switch env) roles.Tested v → L (at_labels env v) (meant (in_switch env) sites v).sites ss →
      S env sites (node forms.SwitchNode w f l (more v ss))
  pub case : (env : Env) (sites : List Place) (role : Role) (w : List ℕ) (f l : ℕ) (v a : Syntax) → IsExpression v →
      SoundTree asked env roles.Other v → SoundNode asked env role (node forms.CaseNode w f l (more v (more a none)))
      → S (case_env env v) (meant env sites v).sites a → S env sites (node forms.CaseNode w f l (more v (more a none)))
  pub default : (env : Env) (sites : List Place) (role : Role) (w : List ℕ) (f l : ℕ) (a : Syntax) →
      SoundNode asked env role (node forms.DefaultNode w f l (more a none)) → S (default_env env) sites a →
      S env sites (node forms.DefaultNode w f l (more a none))
  pub break : (env : Env) (sites : List Place) (role : Role) (w : List ℕ) (f l : ℕ) →
      SoundNode asked env role (node forms.BreakNode w f l none) → S env sites (node forms.BreakNode w f l none)
  pub continue : (env : Env) (sites : List Place) (role : Role) (w : List ℕ) (f l : ℕ) →
      SoundNode asked env role (node forms.ContinueNode w f l none) → S env sites (node forms.ContinueNode w f l none)
  pub return0 : (env : Env) (sites : List Place) (role : Role) (w : List ℕ) (f l : ℕ) →
      SoundNode asked env role (node forms.ReturnNode w f l none) → S env sites (node forms.ReturnNode w f l none)
  pub return1 : (env : Env) (sites : List Place) (role : Role) (w : List ℕ) (f l : ℕ) (e : Syntax) → IsExpression e →
      SoundTree asked env roles.Other e → SoundNode asked env role (node forms.ReturnNode w f l (more e none)) →
      S env sites (node forms.ReturnNode w f l (more e none))
  pub no_line : (env : Env) (sites : List Place) → B env sites none
  pub declared : (env : Env) (sites : List Place) (d : Syntax) (ps : Forest) → IsDeclaration d →
      SoundTree asked env roles.Other d → B (behind env d) (meant env sites d).sites ps → B env sites (more d ps)
  pub line : (env : Env) (sites : List Place) (t : Syntax) (ps : Forest) → S env sites t →
      B (behind env t) (meant env sites t).sites ps → B env sites (more t ps)
  pub no_statement : (env : Env) (sites : List Place) → L env sites none
  pub statement : (env : Env) (sites : List Place) (t : Syntax) (ps : Forest) → S env sites t →
      L (on_labels env t) (meant env sites t).sites ps → L env sites (more t ps)

pub block_parts : (asked : Asked) (env : Env) (role : Role) (w : List ℕ) (f l : ℕ) (parts : Forest) →
    SoundTree asked env role (node forms.BlockNode w f l parts) →
    SoundParts asked (in_block env) forms.BlockNode None parts
unfolding inside
block_parts asked env role w f l parts s = s.0

module _ (asked : Asked) (S : Env → List Place → Syntax → Type 0) (B L : Env → List Place → Forest →
    Type 0) (cs : Cases asked S B L) where
  mutual
    pub of_statement : (env : Env) (sites : List Place) (role : Role) (t : Syntax) → IsStatement t →
        SoundTree asked env role t → S env sites t
    of_statement env sites role (node forms.BlockNode w f l parts) h s =
        cs.block env sites w f l parts
        (of_lines (in_block env) sites None parts h (block_parts asked env role w f l parts s))
    of_statement env sites role (node forms.SimpleNode w f l parts) h s = of_simple env sites role w f l parts h s
    of_statement env sites role (node forms.IfNode w f l (more c (more a none))) h s =
        cs.if_one env sites w f l c a h.0 (if_sound asked env role w f l c a h.0 s).0
        (of_statement (apart env) (meant (apart env) sites c).sites roles.Other a h.1
        (if_sound asked env role w f l c a h.0 s).1)
    of_statement env sites role (node forms.IfNode w f l (more c (more a (more b none)))) h s =
        cs.if_else env sites w f l c a b h.0 (else_sound asked env role w f l c a b h.0 s).0
        (of_statement (apart env) (meant (apart env) sites c).sites roles.Other a h.1
        (else_sound asked env role w f l c a b h.0 s).1)
        (of_statement (behind (apart env) a) (meant (apart env) (meant (apart env) sites c).sites a).sites roles.Other
        b h.2 (else_sound asked env role w f l c a b h.0 s).2)
    of_statement env sites role (node forms.WhileNode w f l (more c (more a none))) h s =
        cs.while env sites w f l c a h.0 (while_sound asked env role w f l c a h.0 s).0
        (of_statement (in_loop env) (meant (in_loop env) sites c).sites roles.Other a h.1
        (while_sound asked env role w f l c a h.0 s).1)
    of_statement env sites role (node forms.DoNode w f l (more a (more c none))) h s =
        cs.do_while env sites w f l a c h.1 (of_statement (in_loop env) sites roles.Other a h.0
        (do_sound asked env role w f l a c s).0) (do_sound asked env role w f l a c s).1
    of_statement env sites role (node forms.ForNode w f l (more d (more a none))) h s =
        cs.for_ever env sites w f l d a h.0 (for_sound asked env role w f l d a s).0
        (of_statement (behind (opened (in_loop env)) d) (meant (opened (in_loop env)) sites d).sites
        (for_role d a) a h.1 (for_sound asked env role w f l d a s).1)
    of_statement env sites role (node forms.ForNode w f l (more d (more e (more a none)))) h s =
        cs.for_one env sites w f l d e a h.0 (for1_sound asked env role w f l d e a h.1 s).0 h.1
        (for1_sound asked env role w f l d e a h.1 s).1
        (of_statement (behind (opened (in_loop env)) d)
        (meant (behind (opened (in_loop env)) d) (meant (opened (in_loop env)) sites d).sites e).sites
        (for_role e a) a h.2 (for1_sound asked env role w f l d e a h.1 s).2)
    of_statement env sites role (node forms.ForNode w f l (more d (more c (more e (more a none))))) h s =
        cs.for_both env sites w f l d c e a h.0 (for2_sound asked env role w f l d c e a h.1 h.2 s).0 h.1
        (for2_sound asked env role w f l d c e a h.1 h.2 s).1 h.2 (for2_sound asked env role w f l d c e a h.1 h.2
        s).2
        (of_statement (behind (opened (in_loop env)) d)
        (meant (behind (opened (in_loop env)) d)
        (meant (behind (opened (in_loop env)) d) (meant (opened (in_loop env)) sites d).sites c).sites
        e).sites (for_role e a) a h.3 (for2_sound asked env role w f l d c e a h.1 h.2 s).3)
    of_statement env sites role (node forms.SwitchNode w f l (more v ss)) h s =
        cs.switch env sites w f l v ss h.0 (switch_sound asked env role w f l v ss h.0 s).0
        (of_statements (at_labels env v) (meant (in_switch env) sites v).sites (last_of v) ss h.1
        (switch_sound asked env role w f l v ss h.0 s).1)
    of_statement env sites role (node forms.CaseNode w f l (more v (more a none))) h s =
        cs.case env sites role w f l v a h.0 (case_sound asked env role w f l v a h.0 s).0 s.1.0
        (of_statement (case_env env v) (meant env sites v).sites roles.Other a h.1
        (case_sound asked env role w f l v a h.0 s).1)
    of_statement env sites role (node forms.DefaultNode w f l (more a none)) h s =
        cs.default env sites role w f l a s.1.0 (of_statement (default_env env) sites roles.Other a h
        (default_sound asked env role w f l a s))
    of_statement env sites role (node forms.BreakNode w f l none) h s = cs.break env sites role w f l s.1.0
    of_statement env sites role (node forms.ContinueNode w f l none) h s = cs.continue env sites role w f l s.1.0
    of_statement env sites role (node forms.ReturnNode w f l parts) h s = of_return env sites role w f l parts h s
    of_statement env sites role t h s = absurd h

    of_simple : (env : Env) (sites : List Place) (role : Role) (w : List ℕ) (f l : ℕ) (parts : Forest) →
        IsOptional parts → SoundTree asked env role (node forms.SimpleNode w f l parts) →
        S env sites (node forms.SimpleNode w f l parts)
    of_simple env sites role w f l none h s = cs.idle env sites w f l
    of_simple env sites role w f l (more e none) h s =
        cs.simple env sites w f l e h (simple_sound asked env role w f l e s)
    of_simple env sites role w f l (more e (more e' es)) h s = absurd h

    of_return : (env : Env) (sites : List Place) (role : Role) (w : List ℕ) (f l : ℕ) (parts : Forest) →
        IsOptional parts → SoundTree asked env role (node forms.ReturnNode w f l parts) →
        S env sites (node forms.ReturnNode w f l parts)
    of_return env sites role w f l none h s = cs.return0 env sites role w f l s.1.0
    of_return env sites role w f l (more e none) h s =
        cs.return1 env sites role w f l e h (return_sound asked env role w f l e s) s.1.0
    of_return env sites role w f l (more e (more e' es)) h s = absurd h

    pub of_statements : (env : Env) (sites : List Place) (b : ℕ) (parts : Forest) → AreStatements parts →
        SoundParts asked env forms.SwitchNode (Some b) parts → L env sites parts
    of_statements env sites b none h s = cs.no_statement env sites
    of_statements env sites b (more p ps) h s =
        cs.statement env sites p ps (of_statement env sites roles.Other p h.0 (on_sound asked env b p ps s).0)
        (of_statements (on_labels env p) (meant env sites p).sites (last_of p) ps h.1
        (on_sound asked env b p ps s).1)

    pub of_lines : (env : Env) (sites : List Place) (b : Before) (parts : Forest) → AreLines parts →
        SoundParts asked env forms.BlockNode b parts → B env sites parts
    of_lines env sites b none h s = cs.no_line env sites
    of_lines env sites b (more p ps) (inl h, hs) s =
        cs.declared env sites p ps h (line_sound asked env b p ps s).0
        (of_lines (behind env p) (meant env sites p).sites (Some (last_of p)) ps hs
        (line_sound asked env b p ps s).1)
    of_lines env sites b (more p ps) (inr h, hs) s =
        cs.line env sites p ps (of_statement env sites roles.Other p h (line_sound asked env b p ps s).0)
        (of_lines (behind env p) (meant env sites p).sites (Some (last_of p)) ps hs
        (line_sound asked env b p ps s).1)
