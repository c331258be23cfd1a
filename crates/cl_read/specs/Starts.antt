-- Terminals by number, and those that a phrase can begin with.
use Rattle.std.specs.Prelude.{ℕ, Bool, true, false, nat_eq}
use Rattle.cl_tree.specs.declared.terminal.Terminal.{Terminal}
use Rattle.cl_tree.specs.declared.terminal.Terminal.TheVariants as terminals

abbrev pub code : Terminal → ℕ
code terminals.Name = 0
code terminals.Number = 1
code terminals.Truth = 2
code terminals.HeadWord = 3
code terminals.Attribute = 4
code terminals.AttributeName = 5
code terminals.Void = 6
code terminals.TypeWord = 7
code terminals.Sign = 8
code terminals.Char = 9
code terminals.Int = 10
code terminals.Length = 11
code terminals.Qualifier = 12
code terminals.Restrict = 13
code terminals.Space = 14
code terminals.If = 15
code terminals.Else = 16
code terminals.While = 17
code terminals.Do = 18
code terminals.For = 19
code terminals.Switch = 20
code terminals.Case = 21
code terminals.Default = 22
code terminals.Break = 23
code terminals.Continue = 24
code terminals.Return = 25
code terminals.Sizeof = 26
code terminals.OpenBrace = 27
code terminals.CloseBrace = 28
code terminals.Open = 29
code terminals.Close = 30
code terminals.OpenBracket = 31
code terminals.CloseBracket = 32
code terminals.Semicolon = 33
code terminals.Comma = 34
code terminals.Colon = 35
code terminals.Question = 36
code terminals.Equals = 37
code terminals.Compound = 38
code terminals.OrOr = 39
code terminals.AndAnd = 40
code terminals.Bar = 41
code terminals.Caret = 42
code terminals.Ampersand = 43
code terminals.Equality = 44
code terminals.Relation = 45
code terminals.Shift = 46
code terminals.PlusMinus = 47
code terminals.Star = 48
code terminals.Slash = 49
code terminals.Tilde = 50
code terminals.Step = 51
code terminals.Point = 52
code terminals.Other = 53

abbrev pub same : Terminal → Terminal → Bool
same a b = nat_eq (code a) (code b)

-- what an expression can begin with
abbrev pub starts_expression : Terminal → Bool
starts_expression terminals.Name = true
starts_expression terminals.Number = true
starts_expression terminals.Truth = true
starts_expression terminals.Open = true
starts_expression terminals.PlusMinus = true
starts_expression terminals.Tilde = true
starts_expression terminals.Ampersand = true
starts_expression terminals.Star = true
starts_expression terminals.Step = true
starts_expression terminals.Sizeof = true
starts_expression _ = false

-- what an expression and its end can begin with
abbrev pub starts_simple : Terminal → Bool
starts_simple terminals.Name = true
starts_simple terminals.Number = true
starts_simple terminals.Truth = true
starts_simple terminals.Open = true
starts_simple terminals.PlusMinus = true
starts_simple terminals.Tilde = true
starts_simple terminals.Ampersand = true
starts_simple terminals.Star = true
starts_simple terminals.Step = true
starts_simple terminals.Sizeof = true
starts_simple terminals.Semicolon = true
starts_simple _ = false

-- what a statement can begin with
abbrev pub starts_statement : Terminal → Bool
starts_statement terminals.Name = true
starts_statement terminals.Number = true
starts_statement terminals.Truth = true
starts_statement terminals.Open = true
starts_statement terminals.PlusMinus = true
starts_statement terminals.Tilde = true
starts_statement terminals.Ampersand = true
starts_statement terminals.Star = true
starts_statement terminals.Step = true
starts_statement terminals.Sizeof = true
starts_statement terminals.Semicolon = true
starts_statement terminals.OpenBrace = true
starts_statement terminals.If = true
starts_statement terminals.While = true
starts_statement terminals.Do = true
starts_statement terminals.For = true
starts_statement terminals.Switch = true
starts_statement terminals.Case = true
starts_statement terminals.Default = true
starts_statement terminals.Break = true
starts_statement terminals.Continue = true
starts_statement terminals.Return = true
starts_statement _ = false

-- what a type can begin with
abbrev pub starts_type : Terminal → Bool
starts_type terminals.Qualifier = true
starts_type terminals.Space = true
starts_type terminals.TypeWord = true
starts_type terminals.Sign = true
starts_type terminals.Char = true
starts_type terminals.Int = true
starts_type terminals.Length = true
starts_type _ = false

-- what can follow a sign in a base type
abbrev pub starts_core : Terminal → Bool
starts_core terminals.Char = true
starts_core terminals.Int = true
starts_core terminals.Length = true
starts_core _ = false

-- what a declarator can begin with
abbrev pub starts_declarator : Terminal → Bool
starts_declarator terminals.Star = true
starts_declarator terminals.Name = true
starts_declarator _ = false

-- what can begin the heads of a function
abbrev pub starts_head : Terminal → Bool
starts_head terminals.HeadWord = true
starts_head terminals.Attribute = true
starts_head _ = false

-- what begins a postfix part
abbrev pub postfixes : Terminal → Bool
postfixes terminals.OpenBracket = true
postfixes terminals.Step = true
postfixes terminals.Point = true
postfixes _ = false
