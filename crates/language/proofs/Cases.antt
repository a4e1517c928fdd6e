-- The starred cases of document 01, with every count, against both definitions; Strachey's successor of a digit and a script
-- that nests calls, quotes and definitions four deep besides. A second table pins what the two definitions share: a rule that
-- is wrong in both is refused by nothing but these. A third has runs in what is lent, with the ends that substitution does not
-- have.
use Prim.Native.Nat.{ℕ, zero, suc}
use Prim.Native.String.{String}
use mathlib.Core.Path.{◌≡◌, refl, ap, ◌∙◌}
use mathlib.Core.Bool.{Bool, true, false, cond, ◌&&◌}
use mathlib.Core.List.{List, [], ◌∷◌, ◌++◌}
use Rattle.std.specs.Prelude.{Option, None, Some}
use lib.ListN.{length, replicate}
use lib.Dec.{eqb}
use Rattle.decimal.specs.Operand.{operand, digits_from}
use Rattle.decimal.specs.Shortest.{digits_of}
use Rattle.language.specs.Signs.{Bytes, ascii, standard, meaning, parameter_digit, parameter_number, Language, language, digits_only}
use Rattle.language.specs.Outcomes
use Rattle.language.specs.Refusals.{refused_by, sizes_too_large, some_below, count_below, sign_refusals}
use Rattle.language.specs.Definitions.{macro, Definition, same, newest, altered, live, among}
use Rattle.language.specs.BuiltIns.{built_ins, chosen, deed}
use Rattle.language.specs.Charge.{arguments_price, definitions_price}
use Rattle.language.specs.Ends.{End, Reported, reported}
use Rattle.language.specs.Scanning.{no_limits, run, scan, scans, calls_charge, bodies_charge, reading}
use Rattle.language.specs.Substitution.{substituted, eval, within}
use Rattle.language.specs.Expansion.{Given, Returned, lent, limits_of, answered, cleared, expanded}

-- the six numbers of a report in document 01's order: outcome, read, written, scans, most, live
abbrev pub report : ℕ → ℕ → ℕ → ℕ → ℕ → ℕ → Reported
report o r w s m l = record { outcome = o; read = r; written = w; scans = s; most = m; live = l }

-- a name, the script, its output and its report
abbrev Case : Type 0
Case = String × String × String × Reported

abbrev starred : List Case
starred =
    ("a", "$DEF,k,<p~1>;$k,7;", "p7", report 0 18 2 22 17 1) ∷
    ("b", "", "", report 0 0 0 1 0 0) ∷
    ("c", "$A,X,U,$DEF,A,<~1~2~1>;;", "XUX", report 0 24 3 29 27 0) ∷
    ("d", "a<b<c>d>e", "ab<c>de", report 0 9 7 10 0 0) ∷
    ("e", "p>q", "p", report 1 2 1 2 0 0) ∷
    ("f", "$DEF,k,<1,2>;$DEF,j,<~1+~2>;$j,$k;;", "1+2", report 0 35 3 44 35 2) ∷
    ("g", "$DEF,k,<x;>;$k;", "x", report 10 15 1 17 14 1) ∷
    ("h", "$DEF,k,<$j>;$k;", "", report 14 15 0 18 19 1) ∷
    ("i", "$DEF,t,<$~1,$DEF,~1,no;$DEF,a,yes;;>;$t,a;$t,b;", "yesno", report 0 47 5 107 69 1) ∷
    ("j", "$DEF,k,ab;$UPDATE,k,c;$k;$UPDATE,k,xy;$k;", "cxy", report 0 41 3 47 24 1) ∷
    ("j, longer", "$DEF,k,ab;$UPDATE,k,c;$k;$UPDATE,k,xyz;$k;", "c", report 21 39 1 41 25 1) ∷
    ("k", "$DEF,k,<$UPDATE,k,a;>;$k;", "", report 20 25 0 37 39 1) ∷
    ("l", "$DEF,mk,<$DEF,m,z;>;$mk;$m;", "z", report 0 27 1 40 35 2) ∷
    ("Strachey's Suc", "$DEF,Suc,<$1,2,3,4,5,6,7,8,9,10,$DEF,1,<~>~1;;>;$Suc,0;", "1", report 0 55 1 94 92 1) ∷
    ("four deep", "$DEF,w,<[~1$DEF,x,<(~1$DEF,y,<{~1$DEF,z,<|~1|>;$z,~1;}>;$y,~1;)>;$x,~1;]>;$w,k;", "[k(k{k|k|})]", report 0 79 12 213 192 4) ∷
    []

-- what both definitions share, or could have wrong alike; each is named by what it pins
abbrev shared : List Case
shared =
    -- signs where no call is open, and in quotes
    ("o, signs where no call is open", "a,b;c~1", "a,b;c~1", report 0 7 7 8 0 0) ∷
    ("a body's comma in the output", "$DEF,k,<a,b>;$k;", "a,b", report 0 16 3 21 15 1) ∷
    ("a body in a body of an argument", "$DEF,a,<x,y>;$DEF,b,<[$a;]>;$DEF,j,<~2~1>;$j,$b;;", "y][x", report 0 49 4 63 52 3) ∷
    ("commas of a value and of a parameter", "$DEF,k,<1,2>;$DEF,j,<[~1]>;$DEF,i,<$j,~1;>;$i,$VAL,k;;", "[1,2]", report 0 54 5 65 51 3) ∷
    ("a body's comma ends a name", "$DEF,k,<DEF,m>;$$k;,v;$m;", "v", report 0 25 1 34 26 2) ∷
    ("signs in quotes", "<$,;~<$,;~>>", "$,;~<$,;~>", report 0 12 10 13 0 0) ∷
    -- names and parameters
    ("15, the beginning of a name", "$DEF,kk,v;$k;", "", report 15 13 0 13 14 1) ∷
    ("15, a name and more", "$DEF,k,v;$kk;", "", report 15 13 0 13 14 1) ∷
    ("an empty value and an empty parameter", "$DEF,e,;$UPDATE,e,;$DEF,k,<[~1]>;$VAL,e;$e;$k,;", "[]", report 0 47 2 53 26 2) ∷
    ("~0 and ~9", "$DEF,k,<~0~9>;$k,1,2,3,4,5,6,7,8,9;", "k9", report 0 35 2 39 34 1) ∷
    ("a script defines VAL", "$DEF,VAL,<v~1>;$VAL,VAL;", "vVAL", report 0 24 4 28 23 1) ∷
    -- which definitions go
    ("a definition made in a name goes", "$DEF,k,v;$$DEF,m,z;k,x;$m;", "v", report 15 26 1 28 23 1) ∷
    ("a definition made in DEF's own list goes", "$DEF,a,$DEF,b,c;;$b;", "", report 15 20 0 20 22 1) ∷
    ("definitions of a list go, of its body stay", "$DEF,mk,<$DEF,m,z;>;$mk,$DEF,n,y;;$m;$n;", "z", report 15 40 1 52 43 2) ∷
    ("a definition made by a body in a list goes", "$DEF,mk,<$DEF,m,z;>;$DEF,k,v;$k,$mk;;$m;", "v", report 15 40 1 52 48 2) ∷
    ("VAL of a name defined in its own list", "$VAL,k$DEF,k,v;;", "v", report 0 16 1 17 21 0) ∷
    ("UPDATE of a name defined in its own list", "$DEF,k,ab;$UPDATE,k,x$DEF,k,cd;;$k;", "ab", report 0 35 2 39 35 1) ∷
    -- what a built-in needs, and what it ignores
    ("13 of DEF", "$DEF,a;", "", report 13 7 0 7 10 0) ∷
    ("13 of VAL", "$VAL;", "", report 13 5 0 5 8 0) ∷
    ("13 of UPDATE, before 19", "$UPDATE,DEF;", "", report 13 12 0 12 15 0) ∷
    ("13 of UPDATE, before 15", "$UPDATE,q;", "", report 13 10 0 10 13 0) ∷
    ("13 of +", "$+,1;", "", report 13 5 0 5 8 0) ∷
    ("13 of +, before 22", "$+,x;", "", report 13 5 0 5 8 0) ∷
    ("surplus parameters", "$DEF,k,<~1>,x,y;$k,a,b,c;$VAL,k,z;$+,1,2,3;", "a~13", report 0 43 4 46 20 1) ∷
    ("surplus parameters of UPDATE", "$DEF,k,ab;$UPDATE,k,x,yz;$k;", "x", report 0 28 1 31 26 1) ∷
    -- VAL and UPDATE
    ("15 by VAL", "$VAL,q;", "", report 15 7 0 7 10 0) ∷
    ("15 by UPDATE", "$UPDATE,q,x;", "", report 15 12 0 12 15 0) ∷
    ("19 by VAL", "$VAL,Rem;", "", report 19 9 0 9 12 0) ∷
    ("19 by UPDATE", "$UPDATE,DEF,x;", "", report 19 14 0 14 17 0) ∷
    ("19 is about the definition, not the name", "$DEF,Rem,ab;$UPDATE,Rem,c;$VAL,Rem;", "c", report 0 35 1 36 27 1) ∷
    ("20 of an outer body", "$DEF,k,ab;$DEF,j,<$UPDATE,k,x;$k;>;$DEF,k,<$j;>;$k;", "", report 20 51 0 66 65 3) ∷
    ("20 of the newest of two with a name", "$DEF,k,<$DEF,k,ab;$UPDATE,k,c;$k;>;$k;", "c", report 0 38 1 67 60 2) ∷
    ("UPDATE of an older one in a body", "$DEF,k,ab;$DEF,j,<$UPDATE,k,c;>;$j;$k;", "c", report 0 38 1 54 47 2) ∷
    ("20 of the inner of two bodies", "$DEF,k,<$UPDATE,k,a;>;$DEF,j,<$k;>;$j;", "", report 20 38 0 53 54 2) ∷
    ("20 before 21", "$DEF,k,<$UPDATE,k,~1;>;$k,abcdefghijklmn;", "", report 20 41 0 53 68 1) ∷
    -- arithmetic
    ("n, difference", "$-,3,5;", "-2", report 0 7 2 8 10 0) ∷
    ("n, quotient", "$Quot,-7,2;", "-4", report 0 11 2 12 14 0) ∷
    ("n, remainder", "$Rem,-7,2;", "1", report 0 10 1 11 13 0) ∷
    ("a plus sign", "$+,+2,1;", "3", report 0 8 1 9 11 0) ∷
    ("9 and 10", "$+,4,5;$+,5,5;", "910", report 0 14 3 15 10 0) ∷
    ("a second operand 0 of - and *", "$-,1,0;$*,1,0;", "10", report 0 14 2 15 10 0) ∷
    ("22", "$+,x,1;", "", report 22 7 0 7 10 0) ∷
    ("22, two signs", "$+,++1,1;", "", report 22 9 0 9 12 0) ∷
    ("22, a space", "$+, 1,1;", "", report 22 8 0 8 11 0) ∷
    ("22 below the range", "$+,-2147483649,0;", "", report 22 17 0 17 20 0) ∷
    ("23", "$Quot,1,0;", "", report 23 10 0 10 13 0) ∷
    ("23 of Rem", "$Rem,1,0;", "", report 23 9 0 9 12 0) ∷
    ("24 of Quot", "$Quot,-2147483648,-1;", "", report 24 21 0 21 24 0) ∷
    ("24 of *", "$*,65536,65536;", "", report 24 15 0 15 18 0) ∷
    ("24 below the range", "$-,-2147483648,1;", "", report 24 17 0 17 20 0) ∷
    -- the other faults; those in an argument or a list drop no definition of it
    ("10 in an argument", "$DEF,k,<x;>;$j$DEF,m,z;,$k;;", "", report 10 27 0 29 28 2) ∷
    ("o, 11", "$a,~1;", "", report 11 4 0 4 6 0) ∷
    ("11, no digit or letter behind it", "$j$DEF,m,z;,~X;", "", report 11 13 0 13 17 1) ∷
    ("12, no digit or letter", "$DEF,k,<~A>;$k;", "", report 12 15 0 16 14 1) ∷
    ("12 at the end of a body, in an argument", "$DEF,k,<~>;$j$DEF,m,z;$k;;", "", report 12 25 0 26 25 2) ∷
    ("13 at ~", "$DEF,k,<~2>;$k,a;", "", report 13 17 0 18 16 1) ∷
    ("13 at ~ in an argument", "$DEF,k,<~2>;$j$DEF,m,z;$k,a;;", "", report 13 28 0 29 28 2) ∷
    ("14 drops no definition", "$DEF,k,<$j,$DEF,m,z;>;$k;", "", report 14 25 0 38 42 2) ∷
    ("o, 15", "$j;", "", report 15 3 0 3 6 0) ∷
    ("15 drops no definition", "$q,$DEF,m,z;;", "", report 15 13 0 13 18 1) ∷
    ("16", "$a>", "", report 16 3 0 3 5 0) ∷
    ("16 drops no definition", "$a$DEF,m,z;>", "", report 16 12 0 12 17 1) ∷
    ("17", "a<b", "ab", report 17 3 2 4 0 0) ∷
    ("17 before 18", "$a<", "", report 17 3 0 4 5 0) ∷
    ("17 drops no definition", "$a$DEF,m,z;<", "", report 17 12 0 13 17 1) ∷
    ("18", "$a,b", "", report 18 4 0 5 7 0) ∷
    ("18 drops no definition", "$a$DEF,m,z;", "", report 18 11 0 12 17 1) ∷
    -- charge
    ("$ alone", "$", "", report 18 1 0 2 4 0) ∷
    ("a parameter is charged whole", "$DEF,k,<$j~1>;$k,abc;", "", report 14 21 0 25 28 1) ∷
    ("a result is charged beside its list and `;`", "$DEF,k,<abcdefgh>;$DEF,j,<~1>;$j,$VAL,k;;", "abcdefgh", report 0 41 8 44 46 2) ∷
    ("a result of arithmetic, alike", "$DEF,j,<~1>;$j,$+,1000000,1;;", "1000001", report 0 29 7 32 37 1) ∷
    ("a definition of a body stays charged", "$DEF,mk,<$DEF,m,z;>;$mk;$m,0123456789abcdef;", "z", report 0 44 1 57 46 2) ∷
    -- Document 02, One: letters
    ("letters are parameters 10 and 11", "$DEF,k,<~a~b>;$k,1,2,3,4,5,6,7,8,9,A,B;", "AB", report 0 39 2 43 38 1) ∷
    ("the last letter", "$DEF,k,<~z>;$k,1,2,3,4,5,6,7,8,9,10,11,12,13,14,15,16,17,18,19,20,21,22,23,24,25,26,27,28,29,30,31,32,33,34,35;", "35", report 0 111 2 114 110 1) ∷
    ("13 at the last letter", "$DEF,k,<~z>;$k,1,2,3,4,5,6,7,8,9,10,11,12,13,14,15,16,17,18,19,20,21,22,23,24,25,26,27,28,29,30,31,32,33,34;", "", report 13 108 0 109 107 1) ∷
    ("~1 and a 0", "$DEF,k,<~10>;$k,A,B,C,D,E,F,G,H,I,J;", "A0", report 0 36 2 40 35 1) ∷
    ("13 at a letter", "$DEF,k,<~a>;$k,1;", "", report 13 17 0 18 16 1) ∷
    ("12 at an upper-case letter", "$DEF,k,<~A>;$k,1;", "", report 12 17 0 18 16 1) ∷
    ("12 before a", "$DEF,k,<~`>;$k,1;", "", report 12 17 0 18 16 1) ∷
    ("12 past z", "$DEF,k,<~{>;$k,1;", "", report 12 17 0 18 16 1) ∷
    ("a quoted ~", "$DEF,k,<<~>a>;$k;", "~a", report 0 17 2 23 16 1) ∷
    ("put together, then shown unquoted", "$DEF,m,<~><a>;$m;", "", report 13 17 0 18 14 1) ∷
    ("quoted where it is shown", "$DEF,m,<<~><a>>;$m;", "~a", report 0 19 2 27 18 1) ∷
    ("a letter in the text", "~a", "~a", report 0 2 2 3 0 0) ∷
    -- Document 02, Four: SEQ, SIZE and IF
    ("SEQ", "$SEQ,ab,ab;$SEQ,ab,abc;$SEQ,,;", "101", report 0 30 3 31 15 0) ∷
    ("SIZE", "$SIZE,;$SIZE,abc;$SIZE,<,,,>,x;", "033", report 0 31 3 32 15 0) ∷
    ("IF", "$IF,0,a,1,b,1,c;|$IF,0,a,1;|$IF,1,x;|", "b||x|", report 0 37 5 38 19 0) ∷
    ("IF gives nothing", "$DEF,k,<[~1]>;$k,$IF,01,a,,b;;", "[]", report 0 30 2 35 31 1) ∷
    ("13 of IF", "$IF,1;", "", report 13 6 0 6 9 0) ∷
    ("13 of SEQ", "$SEQ,a;", "", report 13 7 0 7 10 0) ∷
    ("13 of SIZE", "$SIZE;", "", report 13 6 0 6 9 0) ∷
    ("19 by VAL of IF", "$VAL,IF;", "", report 19 8 0 8 11 0) ∷
    ("19 by UPDATE of SEQ", "$UPDATE,SEQ,x;", "", report 19 14 0 14 17 0) ∷
    ("a script defines IF", "$DEF,IF,<mine~1>;$IF,2;", "mine2", report 0 23 5 30 22 1) ∷
    ("results collected", "$DEF,k,<[~1|~2]>;$k,$IF,$SEQ,a,a;,<x,y>;,$SIZE,abcd;;", "[x,y|4]", report 0 53 7 60 39 1) ∷
    ("a choice is not scanned", "$DEF,j,J;$IF,1,<$j;>;", "$j;", report 0 21 3 22 20 1) ∷
    ("SEQ, a surplus parameter and a beginning", "$SEQ,ab,ab,abc;$SEQ,abc,ab;$SEQ,abc,abd;$SEQ,abc,bbc;", "1000", report 0 53 4 54 18 0) ∷
    ("SIZE of nine and ten bytes", "$SIZE,123456789; $SIZE,1234567890;", "9 10", report 0 34 4 35 20 0) ∷
    ("IF, firsts that are not 1", "$IF,01,a,+1,b,11,c,<1 >,d, 1,e,,f;$IF,true,a,1,b;", "b", report 0 49 1 50 35 0) ∷
    ("IF, a first that stands second", "[$IF,a,1,b;][$IF,0,1,0,1;][$IF,1,1;]", "[][][1]", report 0 36 7 37 15 0) ∷
    ("IF, an empty second", "[$IF,1,,1,b;][$IF,0,a,1,;]", "[][]", report 0 26 4 27 14 0) ∷
    ("definitions made in the list of IF go", "$IF,1,a$DEF,m,z;;$m;", "a", report 15 20 1 20 22 0) ∷
    -- Document 02, Five: no nameless macros
    ("33", "$DEF,,x;", "", report 33 8 0 8 11 0) ∷
    ("33, a doubled comma and a stray call", "$DEF,,u,<[up]>;$;", "", report 33 15 0 15 16 0) ∷
    ("33, a name of empty quotes", "$DEF,<>,x;", "", report 33 10 0 10 11 0) ∷
    ("33, name and value empty", "$DEF,,;", "", report 33 7 0 7 10 0) ∷
    ("33 from an empty result", "$DEF,e,;ab$DEF,$e;,x;", "ab", report 33 21 2 22 20 1) ∷
    ("33 in a body, from an empty parameter", "$DEF,k,<a$DEF,~1,b;>;$k,;", "a", report 33 25 1 35 35 1) ∷
    ("33 drops no definition", "$DEF,$DEF,m,z;,x;", "", report 33 17 0 17 20 1) ∷
    ("13 before 33", "$DEF,;", "", report 13 6 0 6 9 0) ∷
    ("15 of an empty name", "$;", "", report 15 2 0 2 5 0) ∷
    ("15 by VAL of an empty name", "$VAL,;", "", report 15 6 0 6 9 0) ∷
    ("15 by UPDATE of an empty name", "$UPDATE,,x;", "", report 15 11 0 11 14 0) ∷
    ("a space is a name", "$DEF, ,v;$ ;", "v", report 0 12 1 15 13 1) ∷
    ("a script defines DEF", "$DEF,DEF,<[~1]>;$DEF,;", "[]", report 0 22 2 27 21 1) ∷
    -- Document 02, Seven: remainders for menu wheels
    ("Quot and Rem", "$Quot,-7,2; $Rem,-7,2; $Quot,-7,-2; $Rem,-7,-2; $Rem,-1,8; $Quot,7,-2; $Rem,7,-2;", "-4 1 4 1 7 -3 1", report 0 81 15 82 15 0) ∷
    ("Quot and Rem at the ends of the range", "$Rem,-1,-2147483648; $Quot,-1,-2147483648; $Rem,-2147483648,-1; $Rem,-2147483648,2147483647;", "2147483647 1 0 2147483646", report 0 92 25 93 31 0) ∷
    ("23 of Rem, a negative dividend", "$Rem,-1,0;", "", report 23 10 0 10 13 0) ∷
    ("multiples", "$Quot,-8,2; $Rem,-8,2; $Quot,-8,-2; $Rem,-8,-2; $Quot,8,-2; $Rem,8,-2;", "-4 0 4 0 -4 0", report 0 70 13 71 15 0) ∷
    ("one below and one above a multiple", "$Quot,-9,8; $Rem,-9,8; $Quot,-7,8; $Rem,-7,8; $Quot,-9,-8; $Rem,-9,-8; $Quot,-7,-8; $Rem,-7,-8;", "-2 7 -1 1 2 7 1 1", report 0 95 17 96 15 0) ∷
    ("by 1 and by -1", "$Quot,-7,1; $Rem,-7,1; $Quot,-7,-1; $Rem,-7,-1; $Quot,7,-1; $Rem,7,-1;", "-7 0 7 0 -7 0", report 0 70 13 71 15 0) ∷
    ("the smallest number divided", "$Quot,-2147483648,1; $Quot,-2147483648,2147483647; $Quot,-2147483648,-2147483648; $Rem,-2147483648,-2147483648; $Quot,-2147483648,-2; $Quot,-2147483648,3; $Rem,-2147483648,3;", "-2147483648 -2 1 0 1073741824 -715827883 1", report 0 174 42 175 33 0) ∷
    ("the largest number divided", "$Quot,2147483647,-1; $Quot,2147483647,-2147483648; $Rem,2147483647,-2147483648; $Quot,-2147483647,-1; $Quot,-2147483647,2147483647; $Rem,-2147483647,-2147483648;", "-2147483647 0 2147483647 2147483647 -1 1", report 0 161 40 162 32 0) ∷
    ("a wheel of eight entries, up from 0 and down from 7", "$Rem,$-,0,1;,8;$Rem,$+,7,1;,8;", "70", report 0 30 2 31 20 0) ∷
    ("a wheel in a body", "$DEF,up,<$Rem,$-,~1,1;,8;>;$DEF,down,<$Rem,$+,~1,1;,8;>;$up,0;$down,7;$up,$up,1;;", "707", report 0 81 3 146 83 2) ∷
    ("a wheel kept by UPDATE", "$DEF,at,0;$DEF,up,<$UPDATE,at,$Rem,$-,$at;,1;,8;;>;$up;$at;$up;$at;", "76", report 0 67 2 138 88 2) ∷
    ("Quot and Rem collected", "$DEF,k,<[~1|~2]>;$k,$Quot,-7,2;,$Rem,-7,2;;", "[-4|1]", report 0 43 6 50 36 1) ∷
    -- Document 02, Nine: locked values
    ("a locked value", "$DEF,s,100;$LOCK,s;$s;$VAL,s;$DEF,s,200;$UPDATE,s,300;$s;", "100100300", report 0 57 9 66 35 2) ∷
    ("36", "$DEF,s,100;$LOCK,s;$LOCK,s;$UPDATE,s,1;", "", report 36 39 0 39 24 1) ∷
    ("36 before 20", "$DEF,s,<$UPDATE,s,;>;$LOCK,s;$s;", "", report 36 32 0 43 37 1) ∷
    ("36 before 21", "$DEF,s,1;$LOCK,s;$UPDATE,s,22;", "", report 36 30 0 30 23 1) ∷
    ("19 of LOCK", "$LOCK,DEF;", "", report 19 10 0 10 13 0) ∷
    ("15 of LOCK", "$LOCK,x;", "", report 15 8 0 8 11 0) ∷
    ("13 of LOCK", "$LOCK;", "", report 13 6 0 6 9 0) ∷
    ("the mark stays when the newer one goes", "$DEF,s,1;$LOCK,s;$k,$DEF,s,2;$DEF,k,<$UPDATE,s,3;$s;>;;$UPDATE,s,4;", "3", report 36 67 1 85 57 1) ∷
    ("locked in a body that is read", "$DEF,s,<$LOCK,s;x>;$s;$UPDATE,s,y;", "x", report 36 34 1 44 32 1) ∷
    ("a definition of the list of LOCK", "$DEF,s,1;$LOCK,s$DEF,s,2;;$UPDATE,s,3;$s;", "3", report 0 41 1 44 29 1) ∷
    ("LOCK, surplus parameters", "$DEF,s,1;$LOCK,s,x,y;$UPDATE,s,2;", "", report 36 33 0 33 22 1) ∷
    ("19 by VAL of LOCK", "$VAL,LOCK;", "", report 19 10 0 10 13 0) ∷
    ("19 by UPDATE of LOCK", "$UPDATE,LOCK,x;", "", report 19 15 0 15 18 0) ∷
    ("19 by LOCK of LOCK", "$LOCK,LOCK;", "", report 19 11 0 11 14 0) ∷
    ("a script defines LOCK", "$DEF,s,1;$DEF,LOCK,<[~1]>;$LOCK,s;$UPDATE,s,2;$s;", "[s]2", report 0 49 4 56 35 2) ∷
    ("15, the beginning of LOCK", "$DEF,s,1;$LOC,s;", "", report 15 16 0 16 17 1) ∷
    ("15, LOCK and more", "$DEF,s,1;$LOCKS,s;", "", report 15 18 0 18 19 1) ∷
    ("13 before 36", "$DEF,s,1;$LOCK,s;$UPDATE,s;", "", report 13 27 0 27 20 1) ∷
    ("15 by LOCK of an empty name", "$LOCK,;", "", report 15 7 0 7 10 0) ∷
    ("LOCK gives no text", "$DEF,s,1;$DEF,k,<[~1|~2]>;$k,a$LOCK,s;b,$LOCK,s;;", "[ab|]", report 0 49 5 56 40 2) ∷
    ("36 of an empty value", "$DEF,s,;$LOCK,s;$UPDATE,s,;", "", report 36 27 0 27 20 1) ∷
    ("36 of the value that stands", "$DEF,s,1;$LOCK,s;$UPDATE,s,1;", "", report 36 29 0 29 22 1) ∷
    ("36 of a definition that hides a built-in", "$DEF,VAL,1;$LOCK,VAL;$UPDATE,VAL,2;", "", report 36 35 0 35 26 1) ∷
    ("36 drops no definition", "$DEF,s,1;$LOCK,s;$UPDATE,s,$DEF,m,z;;", "", report 36 37 0 37 32 2) ∷
    ("36 in a body", "$DEF,s,100;$LOCK,s;$DEF,k,<a$UPDATE,s,~1;b>;$k,9;", "a", report 36 49 1 62 53 2) ∷
    ("36 in an argument", "$DEF,s,1;$LOCK,s;$DEF,k,<[~1]>;$k,$UPDATE,s,2;;", "", report 36 46 0 46 38 2) ∷
    ("UPDATE, then LOCK", "$DEF,s,100;$UPDATE,s,20;$LOCK,s;$s;$UPDATE,s,3;", "20", report 36 47 2 50 25 1) ∷
    ("the newest of two is locked", "$DEF,s,1;$DEF,s,2;$LOCK,s;$s;$UPDATE,s,3;", "2", report 36 41 1 43 29 2) ∷
    ("the older of two is not", "$DEF,s,1;$k,$DEF,s,2;$LOCK,s;$DEF,k,<~0$s;>;;$UPDATE,s,3;$s;", "k23", report 0 60 3 70 38 1) ∷
    ("another name is not", "$DEF,s,1;$DEF,t,1;$LOCK,s;$UPDATE,t,2;$t;", "2", report 0 41 1 44 29 2) ∷
    ("the mark goes with the definition", "$k,$DEF,s,1;$LOCK,s;$DEF,k,<$s;>;;$DEF,s,2;$UPDATE,s,3;$s;", "13", report 0 58 2 67 29 1) ∷
    ("the mark moves with the definition", "$DEF,mk,<$DEF,s,1;$LOCK,s;$DEF,t,2;>;$mk,$DEF,n,3;;$UPDATE,t,4;$t;$UPDATE,s,5;", "4", report 36 78 1 107 67 3) ∷
    ("LOCK of an older one in a body", "$DEF,s,1;$DEF,k,<$LOCK,s;>;$k;$s;$UPDATE,s,2;", "1", report 36 45 1 56 38 2) ∷
    ("LOCK in a body within the body of its definition", "$DEF,k,<$LOCK,s;>;$DEF,s,<a$k;b>;$s;$UPDATE,s,;", "ab", report 36 47 2 62 48 2) ∷
    ("stakes in a head", "$DEF,max,500;$LOCK,max;$DEF,bet,<[stake $max;]>;$bet;$DEF,max,900;$bet;$UPDATE,max,950;$bet;", "[stake 500][stake 900][stake 950]", report 0 92 33 147 62 3) ∷
    -- Document 02, Thirteen: the groups of names. `ab`, `ba` and `C` are of the group of UPDATE; `k`, `m` and `j` are of the groups
    -- of `+`, `-` and `*`.
    ("names of one group", "$DEF,ab,1;$DEF,ba,2;$DEF,ab,3;$ab;$ba;$k,$DEF,ba,4;$DEF,k,<$ba;$DEF,ab,5;>;;$ab;$ba;", "32452", report 0 84 5 110 72 4) ∷
    ("a body's definitions move", "$DEF,m,<$DEF,x,1;$DEF,y,2;$DEF,x,3;>;$m,$DEF,z,9;$DEF,x,8;;$x;$y;$z;", "32", report 15 68 2 100 80 4) ∷
    ("four names of one group, and a fifth that is 15", "$DEF,abc,1;$DEF,bca,2;$DEF,cab,3;$DEF,acb,4;$abc;$bca;$cab;$acb;$cba;", "1234", report 15 69 4 77 44 4) ∷
    ("a definition of a group does not hide its built-in", "$DEF,k,a;$DEF,m,b;$DEF,j,c;$+,1,2;$-,5,1;$*,2,3;$k;$m;$j;", "346abc", report 0 57 6 64 31 3) ∷
    ("DEF and IF behind definitions of their group", "$DEF,FED,x;$DEF,FI,y;$DEF,EDF,z;$IF,1,$FED;$FI;$EDF;;$DEF,IF,<if~2>;$FI;$IF,0,1;", "xyzyif1", report 0 80 7 93 48 4) ∷
    ("LOCK defined, Quot and SEQ of its group stay", "$DEF,LOCK,<l~1>;$SEQ,a,a;$Quot,8,2;$LOCK,x;", "14lx", report 0 43 4 47 25 1) ∷
    ("15, another name of the group", "$DEF,ab,1;$ba;", "", report 15 14 0 14 15 1) ∷
    ("15, a name that went, its group's other stays", "$DEF,ab,1;$k,$DEF,ba,2;$DEF,k,<~0$ba;>;;$ab;$ba;", "k21", report 15 48 3 58 42 1) ∷
    ("moved over two of their group that went", "$DEF,mk,<$DEF,ab,1;$DEF,ba,2;$DEF,ab,3;>;$mk,$DEF,ba,8;$DEF,ab,9;;$ab;$ba;$DEF,ba,4;$ba;$ab;", "3243", report 0 92 4 132 90 5) ∷
    ("moved before an older one of their group", "$DEF,ab,0;$DEF,mk,<$DEF,ba,2;$DEF,C,3;>;$mk,$DEF,ab,8;;$ab;$ba;$C;", "023", report 0 66 3 93 70 4) ∷
    ("moved twice, by a body in a body", "$DEF,in,<$DEF,ab,~1;>;$DEF,out,<$in,1$DEF,ba,7;;$DEF,ba,~1;>;$out,2$DEF,ab,8;$DEF,C,9;;$ab;$ba;$C;", "12", report 15 98 2 140 108 4) ∷
    ("a definition made in DEF's own list, of one group", "$DEF,ab,$DEF,ba,2;1;$ab;$ba;", "1", report 15 28 1 30 24 1) ∷
    ("UPDATE of the older of a group", "$DEF,ab,1;$DEF,ba,2;$UPDATE,ab,3;$ab;$ba;", "32", report 0 41 2 46 32 2) ∷
    ("LOCK of the older of a group", "$DEF,ab,1;$DEF,ba,2;$LOCK,ab;$UPDATE,ba,4;$ba;$UPDATE,ab,3;", "4", report 36 59 1 61 32 2) ∷
    ("names whose bytes' sum is a multiple of 64", "$DEF,@,1;$DEF,@@,2;$@;$@@;$@@@;", "12", report 15 31 2 35 23 2) ∷
    []

-- scripts with letters in the language before request One
abbrev before : List Case
before =
    ("letters are parameters 10 and 11", "$DEF,k,<~a~b>;$k,1,2,3,4,5,6,7,8,9,A,B;", "", report 12 39 0 40 38 1) ∷
    ("13 at a letter", "$DEF,k,<~a>;$k,1;", "", report 12 17 0 18 16 1) ∷
    ("put together, then shown unquoted", "$DEF,m,<~><a>;$m;", "", report 12 17 0 18 14 1) ∷
    ("quoted where it is shown", "$DEF,m,<<~><a>>;$m;", "~a", report 0 19 2 27 18 1) ∷
    []

-- two texts are equal; not by the definitions' own test, which is tried here
abbrev pub equal : Bytes → Bytes → Bool
equal [] [] = true
equal [] (y ∷ ys) = false
equal (x ∷ xs) [] = false
equal (x ∷ xs) (y ∷ ys) = eqb x y && equal xs ys

abbrev pub same_report : Reported → Reported → Bool
same_report a b =
    eqb a.outcome b.outcome && (eqb a.read b.read && (eqb a.written b.written
    && (eqb a.scans b.scans && (eqb a.most b.most && eqb a.live b.live))))

abbrev ends : End → Bytes → Reported → Bool
ends e output report = equal e.output output && same_report (reported e) report

-- what the program lends
abbrev ran : Language → Bytes → End
ran G t = run (limits_of 16384 65536) G 10000000 t built_ins

abbrev by_scanning : Language → Case → Bool
by_scanning G c = ends (ran G (ascii c.1)) (ascii c.2) c.3

abbrev ends_as : Option End → Bytes → Reported → Bool
ends_as None output report = false
ends_as (Some e) output report = ends e output report

abbrev by_substitution : Language → Case → Bool
by_substitution G c = ends_as (substituted G 100 (ascii c.1) built_ins) (ascii c.2) c.3

-- the names of the cases that fail a test
abbrev failing : (Case → Bool) → List Case → List String
failing test [] = []
failing test (c ∷ cs) = let r = failing test cs in cond (test c) r (c.0 ∷ r)

abbrev now : Language
now = language standard

pub cases_by_scanning : (failing (by_scanning now) starred ≡ []) × (failing (by_scanning now) shared ≡ []) × (failing (by_scanning (digits_only standard)) before ≡ [])
unfolding run scan scans same newest altered live among chosen deed arguments_price definitions_price calls_charge bodies_charge reading meaning operand digits_from digits_of
cases_by_scanning = (refl, refl, refl)

pub cases_by_substitution : (failing (by_substitution now) starred ≡ []) × (failing (by_substitution now) shared ≡ []) × (failing (by_substitution (digits_only standard)) before ≡ [])
unfolding substituted eval within same newest altered live among chosen deed arguments_price definitions_price meaning operand digits_from digits_of
cases_by_substitution = (refl, refl, refl)

-- Definitions that are left, by name, value, room and mark, newest first ------------------------------------------------------

-- the script, and what it leaves before the built-ins
abbrev Left : Type 0
Left = String × List Definition

abbrev marked : Bool → String → String → ℕ → Definition
marked locked n v room = record { name = ascii n; content = macro (record { value = ascii v; room = room; locked = locked }) }

abbrev stands : String → String → ℕ → Definition
stands n v room = marked false n v room

abbrev stands_locked : String → String → ℕ → Definition
stands_locked n v room = marked true n v room

abbrev updated : Left
updated = ("$DEF,k,abc;$DEF,j,<~1>;$UPDATE,k,xy;", stands "j" "~1" 2 ∷ stands "k" "xy" 3 ∷ [])

abbrev list_and_body : Left
list_and_body = ("$DEF,mk,<$DEF,~1,z~2;$DEF,o,;>;$mk,m$DEF,n,y;,w$DEF,m,v;;", stands "o" "" 0 ∷ stands "m" "zw" 2 ∷ stands "mk" "$DEF,~1,z~2;$DEF,o,;" 20 ∷ [])

abbrev before_refusal : Left
before_refusal = ("$DEF,k,ab;$q,$DEF,m,z;;", stands "m" "z" 1 ∷ stands "k" "ab" 2 ∷ [])

abbrev before_empty_name : Left
before_empty_name = ("$DEF,k,ab;$DEF,$DEF,m,z;,x;", stands "m" "z" 1 ∷ stands "k" "ab" 2 ∷ [])

abbrev locked : Left
locked = ("$DEF,k,abc;$DEF,j,x;$UPDATE,k,y;$LOCK,k;$LOCK,k;", stands "j" "x" 1 ∷ stands_locked "k" "y" 3 ∷ [])

abbrev locked_then_defined : Left
locked_then_defined = ("$DEF,k,a;$LOCK,k;$DEF,k,bc;$UPDATE,k,d;", stands "k" "d" 2 ∷ stands_locked "k" "a" 1 ∷ [])

abbrev locked_in_its_list : Left
locked_in_its_list = ("$DEF,k,a;$LOCK,k$DEF,k,b;$DEF,m,c;;", stands "k" "a" 1 ∷ [])

abbrev locked_in_a_body : Left
locked_in_a_body = ("$DEF,mk,<$DEF,m,~1;$LOCK,m;$LOCK,mk;>;$mk,v$DEF,n,w;$LOCK,n;;", stands_locked "m" "v" 1 ∷ stands_locked "mk" "$DEF,m,~1;$LOCK,m;$LOCK,mk;" 27 ∷ [])

abbrev before_locked : Left
before_locked = ("$DEF,k,ab;$LOCK,k;$UPDATE,k,c$DEF,m,z;;", stands "m" "z" 1 ∷ stands_locked "k" "ab" 2 ∷ [])

abbrev left_by : Option End → Option (List Definition)
left_by None = None
left_by (Some e) = Some e.definitions

abbrev LeftByScanning : Left → Type 0
LeftByScanning c = (ran now (ascii c.0)).definitions ≡ c.1 ++ built_ins

abbrev LeftBySubstitution : Left → Type 0
LeftBySubstitution c = left_by (substituted now 100 (ascii c.0) built_ins) ≡ Some (c.1 ++ built_ins)

pub left_by_scanning : LeftByScanning updated × LeftByScanning list_and_body × LeftByScanning before_refusal × LeftByScanning before_empty_name × LeftByScanning locked
    × LeftByScanning locked_then_defined × LeftByScanning locked_in_its_list × LeftByScanning locked_in_a_body × LeftByScanning before_locked
unfolding run scan scans same newest altered live among deed arguments_price definitions_price calls_charge bodies_charge reading meaning
left_by_scanning = (refl, refl, refl, refl, refl, refl, refl, refl, refl)

pub left_by_substitution : LeftBySubstitution updated × LeftBySubstitution list_and_body × LeftBySubstitution before_refusal × LeftBySubstitution before_empty_name
    × LeftBySubstitution locked × LeftBySubstitution locked_then_defined × LeftBySubstitution locked_in_its_list × LeftBySubstitution locked_in_a_body
    × LeftBySubstitution before_locked
unfolding substituted eval within same newest altered live among deed arguments_price definitions_price meaning
left_by_substitution = (refl, refl, refl, refl, refl, refl, refl, refl, refl)

-- A run that starts with a definition: it is charged at once ----------------------------------------------------------------

abbrev one_defined : List Definition
one_defined = stands "k" "ab" 2 ∷ built_ins

abbrev report_of : Option End → Option Reported
report_of None = None
report_of (Some e) = Some (reported e)

pub started_by_scanning :
    (reported (run no_limits now 100 [] one_defined) ≡ report 0 0 0 1 8 1)
    × (reported (run no_limits now 100 (ascii "$k;") one_defined) ≡ report 0 3 2 7 14 1)
unfolding run scan scans same newest live among deed arguments_price definitions_price calls_charge bodies_charge reading meaning
started_by_scanning = (refl, refl)

pub started_by_substitution :
    (report_of (substituted now 100 [] one_defined) ≡ Some (report 0 0 0 1 8 1))
    × (report_of (substituted now 100 (ascii "$k;") one_defined) ≡ Some (report 0 3 2 7 14 1))
unfolding substituted eval within same newest live among deed arguments_price definitions_price meaning
started_by_substitution = (refl, refl)

-- The bytes that may follow `~` in a body, with the parameter that each stands for -----------------------------------------

abbrev with_number : ℕ → Option ℕ → List (ℕ × ℕ) → List (ℕ × ℕ)
with_number b None r = r
with_number b (Some k) r = (b, k) ∷ r

-- those of n bytes from b on
abbrev numbered : (ℕ → Option ℕ) → ℕ → ℕ → List (ℕ × ℕ)
numbered number b zero = []
numbered number b (suc n) = with_number b (number b) (numbered number (suc b) n)

abbrev digits : List (ℕ × ℕ)
digits = (48, 0) ∷ (49, 1) ∷ (50, 2) ∷ (51, 3) ∷ (52, 4) ∷ (53, 5) ∷ (54, 6) ∷ (55, 7) ∷ (56, 8) ∷ (57, 9) ∷ []

abbrev letters : List (ℕ × ℕ)
letters =
    (97, 10) ∷ (98, 11) ∷ (99, 12) ∷ (100, 13) ∷ (101, 14) ∷ (102, 15) ∷ (103, 16) ∷ (104, 17) ∷ (105, 18) ∷
    (106, 19) ∷ (107, 20) ∷ (108, 21) ∷ (109, 22) ∷ (110, 23) ∷ (111, 24) ∷ (112, 25) ∷ (113, 26) ∷ (114, 27) ∷
    (115, 28) ∷ (116, 29) ∷ (117, 30) ∷ (118, 31) ∷ (119, 32) ∷ (120, 33) ∷ (121, 34) ∷ (122, 35) ∷ []

pub parameter_bytes : numbered parameter_number 0 256 ≡ digits ++ letters
parameter_bytes = refl

-- before request One
pub parameter-digits : numbered parameter_digit 0 256 ≡ digits
parameter-digits = refl

-- The numbers that are ends -------------------------------------------------------------------------------------------------

-- those of n numbers from b on that pass a test
abbrev passing : (ℕ → Bool) → ℕ → ℕ → List ℕ
passing test b zero = []
passing test b (suc n) = let r = passing test (suc b) n in cond (test b) (b ∷ r) r

pub numbers_that_finish : passing Outcomes.finishes 0 100 ≡ 0 ∷ 1 ∷ []
numbers_that_finish = refl

pub numbers_of_faults : passing Outcomes.fault_of_text 0 100 ≡ 10 ∷ 11 ∷ 12 ∷ 13 ∷ 14 ∷ 15 ∷ 16 ∷ 17 ∷ 18 ∷ 19 ∷ 20 ∷ 21 ∷ 22 ∷ 23 ∷ 24 ∷ 33 ∷ 36 ∷ []
numbers_of_faults = refl

pub numbers_of_ends : passing Outcomes.end_of_text 0 100 ≡ 0 ∷ 1 ∷ 10 ∷ 11 ∷ 12 ∷ 13 ∷ 14 ∷ 15 ∷ 16 ∷ 17 ∷ 18 ∷ 19 ∷ 20 ∷ 21 ∷ 22 ∷ 23 ∷ 24 ∷ 33 ∷ 36 ∷ []
numbers_of_ends = refl

-- What is lent --------------------------------------------------------------------------------------------------------------

-- a name, the cells lent, the output lent, the allowance, the script, the output as it is left and the report; cells hold
-- something before and zero afterwards
abbrev Lending : Type 0
Lending = String × ℕ × String × ℕ × String × String × Reported

abbrev lending : List Lending
lending =
    ("a, 16 cells", 16, "wxyz", 100, "$DEF,k,<p~1>;$k,7;", "wxyz", report 4 18 0 18 16 1) ∷
    ("a, 17 cells, and the freed ones again", 17, "wxyz", 100, "$DEF,k,<p~1>;$k,7;$k,7;", "p7p7", report 0 23 4 30 17 1) ∷
    ("a, 21 scans", 20, "wx", 21, "$DEF,k,<p~1>;$k,7;", "p7", report 3 18 2 21 17 1) ∷
    ("a, 22 scans", 20, "wx", 22, "$DEF,k,<p~1>;$k,7;", "p7", report 0 18 2 22 17 1) ∷
    ("b, nothing lent", 0, "", 0, "", "", report 3 0 0 0 0 0) ∷
    ("b, one scan", 0, "", 1, "", "", report 0 0 0 1 0 0) ∷
    ("e, the output so far", 8, "wxyz", 100, "ab>c", "abyz", report 1 3 2 3 0 0) ∷
    ("3 in a loop", 200, "w", 100, "$DEF,r,<$r;>;$r;", "w", report 3 16 0 100 183 1) ∷
    ("4 at `$`", 3, "wxyz", 100, "ab$k;", "abyz", report 4 3 2 3 0 0) ∷
    ("4 at a collected byte", 6, "wxyz", 100, "$DEF,k,v;", "wxyz", report 4 4 0 4 6 0) ∷
    ("4 at a comma", 7, "wxyz", 100, "$DEF,k,v;", "wxyz", report 4 5 0 5 7 0) ∷
    ("4 at `;`", 11, "wxyz", 100, "$DEF,k,v;", "wxyz", report 4 9 0 9 11 0) ∷
    ("4 before 15", 5, "wx", 100, "$j;", "wx", report 4 3 0 3 5 0) ∷
    ("4 before 33", 10, "wx", 100, "$DEF,,x;", "wx", report 4 8 0 8 10 0) ∷
    ("33 in the last cell", 11, "wx", 100, "a$DEF,,x;", "ax", report 33 9 1 9 11 0) ∷
    ("15 in the last cell", 6, "wx", 100, "a$j;", "ax", report 15 4 1 4 6 0) ∷
    ("4 at a collected parameter", 28, "wx", 100, "$DEF,k,<$j~1;>;$k,abc;", "wx", report 4 22 0 25 26 1) ∷
    ("4 at a collected result, its `;` allowed", 27, "wx", 100, "$DEF,k,abc;$j,$VAL,k;;", "wx", report 4 21 0 21 25 1) ∷
    ("4 in a deep call", 101, "w", 1000, "$DEF,r,<$r;>;$r;", "w", report 4 16 0 59 99 1) ∷
    ("5 at a byte", 8, "wx", 100, "abc", "ab", report 5 3 2 3 0 0) ∷
    ("5 at a parameter, whole or not at all", 20, "wx", 100, "a$DEF,k,<~1>;$k,bc;", "ax", report 5 19 1 20 17 1) ∷
    ("4 before 5", 18, "wx", 100, "$DEF,k,abc;$VAL,k;", "wx", report 4 18 0 18 18 1) ∷
    ("4 at a choice of IF that is collected, whole or not at all", 27, "wx", 100, "$k,$IF,1,abcdef;;", "wx", report 4 16 0 16 22 0) ∷
    ("5 at a choice of IF", 16, "wxyz!", 100, "$IF,1,abcdef;", "wxyz!", report 5 13 0 13 16 0) ∷
    ("4 at the `;` of LOCK", 17, "wx", 100, "$DEF,s,1;$LOCK,s;", "wx", report 4 17 0 17 17 1) ∷
    ("LOCK in the last cell", 18, "wx", 100, "$DEF,s,1;$LOCK,s;$s;", "1x", report 0 20 1 23 18 1) ∷
    ("4 before 36", 21, "wx", 100, "$DEF,s,1;$LOCK,s;$UPDATE,s,2;", "wx", report 4 29 0 29 21 1) ∷
    ("36 in the last cell", 22, "wx", 100, "$DEF,s,1;$LOCK,s;$UPDATE,s,2;", "wx", report 36 29 0 29 22 1) ∷
    ("4 before 15, by LOCK", 10, "wx", 100, "$LOCK,x;", "wx", report 4 8 0 8 10 0) ∷
    ("5 at a result", 19, "wx", 100, "$DEF,k,abc;$VAL,k;", "wx", report 5 18 0 18 19 1) ∷
    []

abbrev leaves : Returned → ℕ → Bytes → Reported → Bool
leaves x cells output report = same_report x.report report && (equal x.lent.cells (replicate cells 0) && equal x.lent.output output)

abbrev lends : ℕ → Bytes → ℕ → Bytes → Given
lends cells output allowance t = record { table = standard; text = t; definitions = built_ins; lent = lent (replicate cells 7) output; allowance = allowance }

abbrev by_lending : Lending → Bool
by_lending c = leaves (expanded (lends c.1 (ascii c.2) c.3 (ascii c.4))) c.1 (ascii c.5) c.6

-- the names of those that leave something else
abbrev failing_lending : List Lending → List String
failing_lending [] = []
failing_lending (c ∷ cs) = let r = failing_lending cs in cond (by_lending c) r (c.0 ∷ r)

pub lendings : failing_lending lending ≡ []
unfolding expanded refused_by some_below count_below cleared run scan scans same newest altered live among chosen deed arguments_price definitions_price calls_charge bodies_charge reading meaning
lendings = refl

-- sizes at the limits and over them
pub sizes_at_the_limits : sizes_too_large 65536 65536 65536 ≡ false
sizes_at_the_limits = refl

pub sizes_over_a_limit : (sizes_too_large 65537 0 0 ≡ true) × (sizes_too_large 0 65537 0 ≡ true) × (sizes_too_large 0 0 65537 ≡ true)
sizes_over_a_limit = (refl, refl, refl)

-- each of the three is measured; 2 comes before the signs
abbrev over_limit : Given → Bool
over_limit g = sizes_too_large (length g.text) (length g.lent.cells) (length g.lent.output)

pub too_large_lem : (g : Given) → over_limit g ≡ true → expanded g ≡ record { report = report 2 0 0 0 0 0; lent = g.lent }
unfolding expanded refused_by
too_large_lem g h = ap (λ (x : Bool). answered (cond x (Some Outcomes.too_large) (refused_by (sign_refusals g.table))) g) h

-- by the signs a call is refused with the outcome of the check, nothing touched
pub signs_refused : (g : Given) (k : ℕ) → over_limit g ≡ false → refused_by (sign_refusals g.table) ≡ Some k
    → expanded g ≡ record { report = report k 0 0 0 0 0; lent = g.lent }
unfolding expanded refused_by
signs_refused g k h e =
    ap (λ (x : Bool). answered (cond x (Some Outcomes.too_large) (refused_by (sign_refusals g.table))) g) h ∙ ap (λ (x : Option ℕ). answered x g) e
