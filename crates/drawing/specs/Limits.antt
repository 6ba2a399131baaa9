-- The versions and the limits (01, 'What a plan may contain').
use Rattle.std.specs.Prelude.{ℕ}

-- A version 1.m is its minor number m, from 0 to this one.
abbrev pub last_minor : ℕ
last_minor = 5

-- the versions with which fields or objects change
abbrev pub v1_1 : ℕ
v1_1 = 1

abbrev pub v1_2 : ℕ
v1_2 = 2

abbrev pub v1_3 : ℕ
v1_3 = 3

abbrev pub v1_4 : ℕ
v1_4 = 4

abbrev pub v1_5 : ℕ
v1_5 = 5

-- the most bytes that a file may have
abbrev pub length_limit : ℕ
length_limit = 65_535

-- how deep groups may nest, the outer group being depth 1
abbrev pub depth_limit : ℕ
depth_limit = 16

-- the most markers, with an id that is not 0, in a chain of composite markers
abbrev pub marker_limit : ℕ
marker_limit = 4
