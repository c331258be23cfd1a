-- Terminals one by one, and tokens to complete a phrase with.
use Rattle.std.proofs.Common.{◌≡◌, ℕ, suc, ◌+◌, Bool, true, false, List, [], ◌∷◌, ◌++◌, length, get_or, refl, sym, ap}
use Rattle.std.proofs.Common.{◌∙◌, arith}
use Rattle.std.specs.Prelude.{codes}
use Rattle.std.proofs.lemmas.Bool.{eqb-true}
use Rattle.cl_tree.specs.declared.terminal.Terminal.{Terminal}
use Rattle.cl_tree.specs.declared.terminal.Terminal.TheVariants as terminals
use Rattle.cl_tree.specs.declared.terminal.Leaf.{Leaf}
use Rattle.cl_tree.specs.Nodes.{Spot, tok}
use Rattle.cl_read.specs.Starts.{code, same}
use Rattle.cl_read.specs.Reading.{begins, is}

abbrev in_order : List Terminal
in_order = terminals.Name ∷ terminals.Number ∷ terminals.Truth ∷ terminals.HeadWord ∷ terminals.Attribute ∷
    terminals.AttributeName ∷ terminals.Void ∷ terminals.TypeWord ∷ terminals.Sign ∷ terminals.Char ∷ terminals.Int ∷
    terminals.Length ∷ terminals.Qualifier ∷ terminals.Restrict ∷ terminals.Space ∷ terminals.If ∷ terminals.Else ∷
    terminals.While ∷ terminals.Do ∷ terminals.For ∷ terminals.Switch ∷ terminals.Case ∷ terminals.Default ∷
    terminals.Break ∷ terminals.Continue ∷ terminals.Return ∷ terminals.Sizeof ∷ terminals.OpenBrace ∷
    terminals.CloseBrace ∷ terminals.Open ∷ terminals.Close ∷ terminals.OpenBracket ∷ terminals.CloseBracket ∷
    terminals.Semicolon ∷ terminals.Comma ∷ terminals.Colon ∷ terminals.Question ∷ terminals.Equals ∷
    terminals.Compound ∷ terminals.OrOr ∷ terminals.AndAnd ∷ terminals.Bar ∷ terminals.Caret ∷ terminals.Ampersand ∷
    terminals.Equality ∷ terminals.Relation ∷ terminals.Shift ∷ terminals.PlusMinus ∷ terminals.Star ∷
    terminals.Slash ∷ terminals.Tilde ∷ terminals.Step ∷ terminals.Point ∷ terminals.Other ∷ []

terminal_back : (j : Terminal) → get_or in_order (code j) terminals.Name ≡ j
terminal_back terminals.Name = refl
terminal_back terminals.Number = refl
terminal_back terminals.Truth = refl
terminal_back terminals.HeadWord = refl
terminal_back terminals.Attribute = refl
terminal_back terminals.AttributeName = refl
terminal_back terminals.Void = refl
terminal_back terminals.TypeWord = refl
terminal_back terminals.Sign = refl
terminal_back terminals.Char = refl
terminal_back terminals.Int = refl
terminal_back terminals.Length = refl
terminal_back terminals.Qualifier = refl
terminal_back terminals.Restrict = refl
terminal_back terminals.Space = refl
terminal_back terminals.If = refl
terminal_back terminals.Else = refl
terminal_back terminals.While = refl
terminal_back terminals.Do = refl
terminal_back terminals.For = refl
terminal_back terminals.Switch = refl
terminal_back terminals.Case = refl
terminal_back terminals.Default = refl
terminal_back terminals.Break = refl
terminal_back terminals.Continue = refl
terminal_back terminals.Return = refl
terminal_back terminals.Sizeof = refl
terminal_back terminals.OpenBrace = refl
terminal_back terminals.CloseBrace = refl
terminal_back terminals.Open = refl
terminal_back terminals.Close = refl
terminal_back terminals.OpenBracket = refl
terminal_back terminals.CloseBracket = refl
terminal_back terminals.Semicolon = refl
terminal_back terminals.Comma = refl
terminal_back terminals.Colon = refl
terminal_back terminals.Question = refl
terminal_back terminals.Equals = refl
terminal_back terminals.Compound = refl
terminal_back terminals.OrOr = refl
terminal_back terminals.AndAnd = refl
terminal_back terminals.Bar = refl
terminal_back terminals.Caret = refl
terminal_back terminals.Ampersand = refl
terminal_back terminals.Equality = refl
terminal_back terminals.Relation = refl
terminal_back terminals.Shift = refl
terminal_back terminals.PlusMinus = refl
terminal_back terminals.Star = refl
terminal_back terminals.Slash = refl
terminal_back terminals.Tilde = refl
terminal_back terminals.Step = refl
terminal_back terminals.Point = refl
terminal_back terminals.Other = refl

pub same_terminal : (a b : Terminal) → same a b ≡ true → a ≡ b
same_terminal a b h =
    sym (terminal_back a) ∙ ap (λ n. get_or in_order n terminals.Name) (eqb-true (code a) (code b) h) ∙ terminal_back b

-- ---- what a token is not

-- a token that begins something is none of a terminal that can't
pub not_begun : (test : Terminal → Bool) (k : Terminal) → test k ≡ false → (ts : List Leaf) → begins test ts ≡ true →
    begins (is k) ts ≡ false
not_begun test k n [] b = refl
not_begun test k n (i ∷ ts) b = go (same i.terminal k) refl
  where
    go : (s : Bool) → same i.terminal k ≡ s → same i.terminal k ≡ false
    go false e = e
    go true e = let q : i.terminal ≡ k = same_terminal i.terminal k e in absurd cc

-- nor does a list begin with a terminal, where the test says that it does not begin so
pub absent : (test : Terminal → Bool) (k : Terminal) → test k ≡ true → (ts : List Leaf) → begins test ts ≡ false →
    begins (is k) ts ≡ false
absent test k n [] b = refl
absent test k n (i ∷ ts) b = go (same i.terminal k) refl
  where
    go : (s : Bool) → same i.terminal k ≡ s → same i.terminal k ≡ false
    go false e = e
    go true e = let q : i.terminal ≡ k = same_terminal i.terminal k e in absurd cc

-- two tests of which one excludes the other, or contains it
pub excluded : (a b : Terminal → Bool) → ((j : Terminal) → a j ≡ true → b j ≡ false) → (ts : List Leaf) →
    begins a ts ≡ true → begins b ts ≡ false
excluded a b h [] e = refl
excluded a b h (i ∷ ts) e = h i.terminal e

pub included : (a b : Terminal → Bool) → ((j : Terminal) → b j ≡ true → a j ≡ true) → (ts : List Leaf) →
    begins a ts ≡ false → begins b ts ≡ false
included a b h [] e = refl
included a b h (i ∷ ts) e = go (b i.terminal) refl
  where
    go : (s : Bool) → b i.terminal ≡ s → b i.terminal ≡ false
    go false q = q
    go true q = let r : a i.terminal ≡ true = h i.terminal q in absurd cc

-- ---- tokens that complete a phrase: each terminal in one of its spellings

abbrev pub spelling : Terminal → List ℕ
spelling terminals.Name = codes "x"
spelling terminals.Number = codes "1"
spelling terminals.Truth = codes "true"
spelling terminals.HeadWord = codes "kernel"
spelling terminals.Attribute = codes "__attribute__"
spelling terminals.AttributeName = codes "work_group_size_hint"
spelling terminals.Void = codes "void"
spelling terminals.TypeWord = codes "bool"
spelling terminals.Sign = codes "signed"
spelling terminals.Char = codes "char"
spelling terminals.Int = codes "int"
spelling terminals.Length = codes "long"
spelling terminals.Qualifier = codes "const"
spelling terminals.Restrict = codes "restrict"
spelling terminals.Space = codes "global"
spelling terminals.If = codes "if"
spelling terminals.Else = codes "else"
spelling terminals.While = codes "while"
spelling terminals.Do = codes "do"
spelling terminals.For = codes "for"
spelling terminals.Switch = codes "switch"
spelling terminals.Case = codes "case"
spelling terminals.Default = codes "default"
spelling terminals.Break = codes "break"
spelling terminals.Continue = codes "continue"
spelling terminals.Return = codes "return"
spelling terminals.Sizeof = codes "sizeof"
spelling terminals.OpenBrace = codes "{"
spelling terminals.CloseBrace = codes "}"
spelling terminals.Open = codes "("
spelling terminals.Close = codes ")"
spelling terminals.OpenBracket = codes "["
spelling terminals.CloseBracket = codes "]"
spelling terminals.Semicolon = codes ";"
spelling terminals.Comma = codes ","
spelling terminals.Colon = codes ":"
spelling terminals.Question = codes "?"
spelling terminals.Equals = codes "="
spelling terminals.Compound = codes "+="
spelling terminals.OrOr = codes "||"
spelling terminals.AndAnd = codes "&&"
spelling terminals.Bar = codes "|"
spelling terminals.Caret = codes "^"
spelling terminals.Ampersand = codes "&"
spelling terminals.Equality = codes "=="
spelling terminals.Relation = codes "<"
spelling terminals.Shift = codes "<<"
spelling terminals.PlusMinus = codes "+"
spelling terminals.Star = codes "*"
spelling terminals.Slash = codes "/"
spelling terminals.Tilde = codes "~"
spelling terminals.Step = codes "++"
spelling terminals.Point = codes "."
spelling terminals.Other = codes "#"

abbrev pub spot : Terminal → ℕ → Spot
spot j k = record { number = k; word = spelling j }

-- the terminals as tokens, numbered from a first number on
abbrev pub leaves_at : ℕ → List Terminal → List Leaf
leaves_at k [] = []
leaves_at k (j ∷ js) = tok j (spot j k) ∷ leaves_at (suc k) js

pub leaves_append : (k : ℕ) (a b : List Terminal) → leaves_at k (a ++ b) ≡ leaves_at k a ++ leaves_at (k + length a) b
leaves_append k [] b = ap (λ m. leaves_at m b) (omega arith)
leaves_append k (t ∷ a) b =
    let e : leaves_at (suc k + length a) b ≡ leaves_at (k + suc (length a)) b = ap (λ m. leaves_at m b) (omega arith) in
    ap (λ (l : List Leaf). tok t (spot t k) ∷ l) (leaves_append (suc k) a b ∙ ap (λ l. leaves_at (suc k) a ++ l) e)
