-- `pairs::pair` meets its contract: the arm for i has the list's pair i, which the checker reads off the list, and the last arm is reached by the last i alone.
-- Written by table.py. Assumes nothing.
use Rattle.std.proofs.Common.{rules}
use Rattle.quotients.specs.Steps.{quotient_words}
use Rattle.colour_table.specs.Steps.{pairs_of, quotient_pairs}
use Rattle.colour_table.proofs.pairs.Arms.{arm, last}
use Rattle.colour_table.proofs.pairs.pair.Goals as goal

pub returns-in-0 : goal.returns-in-0
unfolding quotient_pairs pairs_of quotient_words
returns-in-0 c = arm 0 c.args.i c.in-0.is

pub returns-in-1 : goal.returns-in-1
unfolding quotient_pairs pairs_of quotient_words
returns-in-1 c = arm 1 c.args.i c.in-1.is

pub returns-in-2 : goal.returns-in-2
unfolding quotient_pairs pairs_of quotient_words
returns-in-2 c = arm 2 c.args.i c.in-2.is

pub returns-in-3 : goal.returns-in-3
unfolding quotient_pairs pairs_of quotient_words
returns-in-3 c = arm 3 c.args.i c.in-3.is

pub returns-in-4 : goal.returns-in-4
unfolding quotient_pairs pairs_of quotient_words
returns-in-4 c = arm 4 c.args.i c.in-4.is

pub returns-in-5 : goal.returns-in-5
unfolding quotient_pairs pairs_of quotient_words
returns-in-5 c = arm 5 c.args.i c.in-5.is

pub returns-in-6 : goal.returns-in-6
unfolding quotient_pairs pairs_of quotient_words
returns-in-6 c = arm 6 c.args.i c.in-6.is

pub returns-in-7 : goal.returns-in-7
unfolding quotient_pairs pairs_of quotient_words
returns-in-7 c = arm 7 c.args.i c.in-7.is

pub returns-in-8 : goal.returns-in-8
unfolding quotient_pairs pairs_of quotient_words
returns-in-8 c = arm 8 c.args.i c.in-8.is

pub returns-in-9 : goal.returns-in-9
unfolding quotient_pairs pairs_of quotient_words
returns-in-9 c = arm 9 c.args.i c.in-9.is

pub returns-in-10 : goal.returns-in-10
unfolding quotient_pairs pairs_of quotient_words
returns-in-10 c = arm 10 c.args.i c.in-10.is

pub returns-in-11 : goal.returns-in-11
unfolding quotient_pairs pairs_of quotient_words
returns-in-11 c = arm 11 c.args.i c.in-11.is

pub returns-in-12 : goal.returns-in-12
unfolding quotient_pairs pairs_of quotient_words
returns-in-12 c = arm 12 c.args.i c.in-12.is

pub returns-in-13 : goal.returns-in-13
unfolding quotient_pairs pairs_of quotient_words
returns-in-13 c = arm 13 c.args.i c.in-13.is

pub returns-in-14 : goal.returns-in-14
unfolding quotient_pairs pairs_of quotient_words
returns-in-14 c = arm 14 c.args.i c.in-14.is

pub returns-in-15 : goal.returns-in-15
unfolding quotient_pairs pairs_of quotient_words
returns-in-15 c = arm 15 c.args.i c.in-15.is

pub returns-in-16 : goal.returns-in-16
unfolding quotient_pairs pairs_of quotient_words
returns-in-16 c = arm 16 c.args.i c.in-16.is

pub returns-in-17 : goal.returns-in-17
unfolding quotient_pairs pairs_of quotient_words
returns-in-17 c = arm 17 c.args.i c.in-17.is

pub returns-in-18 : goal.returns-in-18
unfolding quotient_pairs pairs_of quotient_words
returns-in-18 c = arm 18 c.args.i c.in-18.is

pub returns-in-19 : goal.returns-in-19
unfolding quotient_pairs pairs_of quotient_words
returns-in-19 c = arm 19 c.args.i c.in-19.is

pub returns-in-20 : goal.returns-in-20
unfolding quotient_pairs pairs_of quotient_words
returns-in-20 c = arm 20 c.args.i c.in-20.is

pub returns-in-21 : goal.returns-in-21
unfolding quotient_pairs pairs_of quotient_words
returns-in-21 c = arm 21 c.args.i c.in-21.is

pub returns-in-22 : goal.returns-in-22
unfolding quotient_pairs pairs_of quotient_words
returns-in-22 c = arm 22 c.args.i c.in-22.is

pub returns-in-23 : goal.returns-in-23
unfolding quotient_pairs pairs_of quotient_words
returns-in-23 c = arm 23 c.args.i c.in-23.is

pub returns-in-24 : goal.returns-in-24
unfolding quotient_pairs pairs_of quotient_words
returns-in-24 c = arm 24 c.args.i c.in-24.is

pub returns-in-25 : goal.returns-in-25
unfolding quotient_pairs pairs_of quotient_words
returns-in-25 c = arm 25 c.args.i c.in-25.is

pub returns-in-26 : goal.returns-in-26
unfolding quotient_pairs pairs_of quotient_words
returns-in-26 c = arm 26 c.args.i c.in-26.is

pub returns-in-27 : goal.returns-in-27
unfolding quotient_pairs pairs_of quotient_words
returns-in-27 c = arm 27 c.args.i c.in-27.is

pub returns-in-28 : goal.returns-in-28
unfolding quotient_pairs pairs_of quotient_words
returns-in-28 c = arm 28 c.args.i c.in-28.is

pub returns-in-29 : goal.returns-in-29
unfolding quotient_pairs pairs_of quotient_words
returns-in-29 c = arm 29 c.args.i c.in-29.is

pub returns-in-30 : goal.returns-in-30
unfolding quotient_pairs pairs_of quotient_words
returns-in-30 c = arm 30 c.args.i c.in-30.is

pub returns-in-31 : goal.returns-in-31
unfolding quotient_pairs pairs_of quotient_words
returns-in-31 c = arm 31 c.args.i c.in-31.is

pub returns-in-32 : goal.returns-in-32
unfolding quotient_pairs pairs_of quotient_words
returns-in-32 c = arm 32 c.args.i c.in-32.is

pub returns-in-33 : goal.returns-in-33
unfolding quotient_pairs pairs_of quotient_words
returns-in-33 c = arm 33 c.args.i c.in-33.is

pub returns-in-34 : goal.returns-in-34
unfolding quotient_pairs pairs_of quotient_words
returns-in-34 c = arm 34 c.args.i c.in-34.is

pub returns-in-35 : goal.returns-in-35
unfolding quotient_pairs pairs_of quotient_words
returns-in-35 c = arm 35 c.args.i c.in-35.is

pub returns-in-36 : goal.returns-in-36
unfolding quotient_pairs pairs_of quotient_words
returns-in-36 c = arm 36 c.args.i c.in-36.is

pub returns-in-37 : goal.returns-in-37
unfolding quotient_pairs pairs_of quotient_words
returns-in-37 c = arm 37 c.args.i c.in-37.is

pub returns-in-38 : goal.returns-in-38
unfolding quotient_pairs pairs_of quotient_words
returns-in-38 c = arm 38 c.args.i c.in-38.is

pub returns-in-39 : goal.returns-in-39
unfolding quotient_pairs pairs_of quotient_words
returns-in-39 c = arm 39 c.args.i c.in-39.is

pub returns-in-40 : goal.returns-in-40
unfolding quotient_pairs pairs_of quotient_words
returns-in-40 c = arm 40 c.args.i c.in-40.is

pub returns-in-41 : goal.returns-in-41
unfolding quotient_pairs pairs_of quotient_words
returns-in-41 c = arm 41 c.args.i c.in-41.is

pub returns-in-42 : goal.returns-in-42
unfolding quotient_pairs pairs_of quotient_words
returns-in-42 c = arm 42 c.args.i c.in-42.is

pub returns-in-43 : goal.returns-in-43
unfolding quotient_pairs pairs_of quotient_words
returns-in-43 c = arm 43 c.args.i c.in-43.is

pub returns-in-44 : goal.returns-in-44
unfolding quotient_pairs pairs_of quotient_words
returns-in-44 c = arm 44 c.args.i c.in-44.is

pub returns-in-45 : goal.returns-in-45
unfolding quotient_pairs pairs_of quotient_words
returns-in-45 c = arm 45 c.args.i c.in-45.is

pub returns-in-46 : goal.returns-in-46
unfolding quotient_pairs pairs_of quotient_words
returns-in-46 c = arm 46 c.args.i c.in-46.is

pub returns-in-47 : goal.returns-in-47
unfolding quotient_pairs pairs_of quotient_words
returns-in-47 c = arm 47 c.args.i c.in-47.is

pub returns-in-48 : goal.returns-in-48
unfolding quotient_pairs pairs_of quotient_words
returns-in-48 c = arm 48 c.args.i c.in-48.is

pub returns-in-49 : goal.returns-in-49
unfolding quotient_pairs pairs_of quotient_words
returns-in-49 c = arm 49 c.args.i c.in-49.is

pub returns-in-50 : goal.returns-in-50
unfolding quotient_pairs pairs_of quotient_words
returns-in-50 c = arm 50 c.args.i c.in-50.is

pub returns-in-51 : goal.returns-in-51
unfolding quotient_pairs pairs_of quotient_words
returns-in-51 c = arm 51 c.args.i c.in-51.is

pub returns-in-52 : goal.returns-in-52
unfolding quotient_pairs pairs_of quotient_words
returns-in-52 c = arm 52 c.args.i c.in-52.is

pub returns-in-53 : goal.returns-in-53
unfolding quotient_pairs pairs_of quotient_words
returns-in-53 c = arm 53 c.args.i c.in-53.is

pub returns-in-54 : goal.returns-in-54
unfolding quotient_pairs pairs_of quotient_words
returns-in-54 c = arm 54 c.args.i c.in-54.is

pub returns-in-55 : goal.returns-in-55
unfolding quotient_pairs pairs_of quotient_words
returns-in-55 c = arm 55 c.args.i c.in-55.is

pub returns-in-56 : goal.returns-in-56
unfolding quotient_pairs pairs_of quotient_words
returns-in-56 c = arm 56 c.args.i c.in-56.is

pub returns-in-57 : goal.returns-in-57
unfolding quotient_pairs pairs_of quotient_words
returns-in-57 c = arm 57 c.args.i c.in-57.is

pub returns-in-58 : goal.returns-in-58
unfolding quotient_pairs pairs_of quotient_words
returns-in-58 c = arm 58 c.args.i c.in-58.is

pub returns-in-59 : goal.returns-in-59
unfolding quotient_pairs pairs_of quotient_words
returns-in-59 c = arm 59 c.args.i c.in-59.is

pub returns-in-60 : goal.returns-in-60
unfolding quotient_pairs pairs_of quotient_words
returns-in-60 c = arm 60 c.args.i c.in-60.is

pub returns-in-61 : goal.returns-in-61
unfolding quotient_pairs pairs_of quotient_words
returns-in-61 c = arm 61 c.args.i c.in-61.is

pub returns-in-62 : goal.returns-in-62
unfolding quotient_pairs pairs_of quotient_words
returns-in-62 c = arm 62 c.args.i c.in-62.is

pub returns-in-63 : goal.returns-in-63
unfolding quotient_pairs pairs_of quotient_words
returns-in-63 c = arm 63 c.args.i c.in-63.is

pub returns-in-64 : goal.returns-in-64
unfolding quotient_pairs pairs_of quotient_words
returns-in-64 c = arm 64 c.args.i c.in-64.is

pub returns-in-65 : goal.returns-in-65
unfolding quotient_pairs pairs_of quotient_words
returns-in-65 c = arm 65 c.args.i c.in-65.is

pub returns-in-66 : goal.returns-in-66
unfolding quotient_pairs pairs_of quotient_words
returns-in-66 c = arm 66 c.args.i c.in-66.is

pub returns-in-67 : goal.returns-in-67
unfolding quotient_pairs pairs_of quotient_words
returns-in-67 c = arm 67 c.args.i c.in-67.is

pub returns-in-68 : goal.returns-in-68
unfolding quotient_pairs pairs_of quotient_words
returns-in-68 c = arm 68 c.args.i c.in-68.is

pub returns-in-69 : goal.returns-in-69
unfolding quotient_pairs pairs_of quotient_words
returns-in-69 c = arm 69 c.args.i c.in-69.is

pub returns-in-70 : goal.returns-in-70
unfolding quotient_pairs pairs_of quotient_words
returns-in-70 c = arm 70 c.args.i c.in-70.is

pub returns-in-71 : goal.returns-in-71
unfolding quotient_pairs pairs_of quotient_words
returns-in-71 c = arm 71 c.args.i c.in-71.is

pub returns-in-72 : goal.returns-in-72
unfolding quotient_pairs pairs_of quotient_words
returns-in-72 c = arm 72 c.args.i c.in-72.is

pub returns-in-73 : goal.returns-in-73
unfolding quotient_pairs pairs_of quotient_words
returns-in-73 c = arm 73 c.args.i c.in-73.is

pub returns-in-74 : goal.returns-in-74
unfolding quotient_pairs pairs_of quotient_words
returns-in-74 c = arm 74 c.args.i c.in-74.is

pub returns-in-75 : goal.returns-in-75
unfolding quotient_pairs pairs_of quotient_words
returns-in-75 c = arm 75 c.args.i c.in-75.is

pub returns-in-76 : goal.returns-in-76
unfolding quotient_pairs pairs_of quotient_words
returns-in-76 c = arm 76 c.args.i c.in-76.is

pub returns-in-77 : goal.returns-in-77
unfolding quotient_pairs pairs_of quotient_words
returns-in-77 c = arm 77 c.args.i c.in-77.is

pub returns-in-78 : goal.returns-in-78
unfolding quotient_pairs pairs_of quotient_words
returns-in-78 c = arm 78 c.args.i c.in-78.is

pub returns-in-79 : goal.returns-in-79
unfolding quotient_pairs pairs_of quotient_words
returns-in-79 c = arm 79 c.args.i c.in-79.is

pub returns-in-80 : goal.returns-in-80
unfolding quotient_pairs pairs_of quotient_words
returns-in-80 c = arm 80 c.args.i c.in-80.is

pub returns-in-81 : goal.returns-in-81
unfolding quotient_pairs pairs_of quotient_words
returns-in-81 c = arm 81 c.args.i c.in-81.is

pub returns-in-82 : goal.returns-in-82
unfolding quotient_pairs pairs_of quotient_words
returns-in-82 c = arm 82 c.args.i c.in-82.is

pub returns-in-83 : goal.returns-in-83
unfolding quotient_pairs pairs_of quotient_words
returns-in-83 c = arm 83 c.args.i c.in-83.is

pub returns-in-84 : goal.returns-in-84
unfolding quotient_pairs pairs_of quotient_words
returns-in-84 c = arm 84 c.args.i c.in-84.is

pub returns-in-85 : goal.returns-in-85
unfolding quotient_pairs pairs_of quotient_words
returns-in-85 c = arm 85 c.args.i c.in-85.is

pub returns-in-86 : goal.returns-in-86
unfolding quotient_pairs pairs_of quotient_words
returns-in-86 c = arm 86 c.args.i c.in-86.is

pub returns-in-87 : goal.returns-in-87
unfolding quotient_pairs pairs_of quotient_words
returns-in-87 c = arm 87 c.args.i c.in-87.is

pub returns-in-88 : goal.returns-in-88
unfolding quotient_pairs pairs_of quotient_words
returns-in-88 c = arm 88 c.args.i c.in-88.is

pub returns-in-89 : goal.returns-in-89
unfolding quotient_pairs pairs_of quotient_words
returns-in-89 c = arm 89 c.args.i c.in-89.is

pub returns-in-90 : goal.returns-in-90
unfolding quotient_pairs pairs_of quotient_words
returns-in-90 c = arm 90 c.args.i c.in-90.is

pub returns-in-91 : goal.returns-in-91
unfolding quotient_pairs pairs_of quotient_words
returns-in-91 c = arm 91 c.args.i c.in-91.is

pub returns-in-92 : goal.returns-in-92
unfolding quotient_pairs pairs_of quotient_words
returns-in-92 c = arm 92 c.args.i c.in-92.is

pub returns-in-93 : goal.returns-in-93
unfolding quotient_pairs pairs_of quotient_words
returns-in-93 c = arm 93 c.args.i c.in-93.is

pub returns-in-94 : goal.returns-in-94
unfolding quotient_pairs pairs_of quotient_words
returns-in-94 c = arm 94 c.args.i c.in-94.is

pub returns-in-95 : goal.returns-in-95
unfolding quotient_pairs pairs_of quotient_words
returns-in-95 c = arm 95 c.args.i c.in-95.is

pub returns-in-96 : goal.returns-in-96
unfolding quotient_pairs pairs_of quotient_words
returns-in-96 c = arm 96 c.args.i c.in-96.is

pub returns-in-97 : goal.returns-in-97
unfolding quotient_pairs pairs_of quotient_words
returns-in-97 c = arm 97 c.args.i c.in-97.is

pub returns-in-98 : goal.returns-in-98
unfolding quotient_pairs pairs_of quotient_words
returns-in-98 c = arm 98 c.args.i c.in-98.is

pub returns-in-99 : goal.returns-in-99
unfolding quotient_pairs pairs_of quotient_words
returns-in-99 c = arm 99 c.args.i c.in-99.is

pub returns-in-100 : goal.returns-in-100
unfolding quotient_pairs pairs_of quotient_words
returns-in-100 c = arm 100 c.args.i c.in-100.is

pub returns-in-101 : goal.returns-in-101
unfolding quotient_pairs pairs_of quotient_words
returns-in-101 c = arm 101 c.args.i c.in-101.is

pub returns-in-102 : goal.returns-in-102
unfolding quotient_pairs pairs_of quotient_words
returns-in-102 c = arm 102 c.args.i c.in-102.is

pub returns-in-103 : goal.returns-in-103
unfolding quotient_pairs pairs_of quotient_words
returns-in-103 c = arm 103 c.args.i c.in-103.is

pub returns-in-104 : goal.returns-in-104
unfolding quotient_pairs pairs_of quotient_words
returns-in-104 c = arm 104 c.args.i c.in-104.is

pub returns-in-105 : goal.returns-in-105
unfolding quotient_pairs pairs_of quotient_words
returns-in-105 c = arm 105 c.args.i c.in-105.is

pub returns-in-106 : goal.returns-in-106
unfolding quotient_pairs pairs_of quotient_words
returns-in-106 c = arm 106 c.args.i c.in-106.is

pub returns-in-107 : goal.returns-in-107
unfolding quotient_pairs pairs_of quotient_words
returns-in-107 c = arm 107 c.args.i c.in-107.is

pub returns-in-108 : goal.returns-in-108
unfolding quotient_pairs pairs_of quotient_words
returns-in-108 c = arm 108 c.args.i c.in-108.is

pub returns-in-109 : goal.returns-in-109
unfolding quotient_pairs pairs_of quotient_words
returns-in-109 c = arm 109 c.args.i c.in-109.is

pub returns-in-110 : goal.returns-in-110
unfolding quotient_pairs pairs_of quotient_words
returns-in-110 c = arm 110 c.args.i c.in-110.is

pub returns-in-111 : goal.returns-in-111
unfolding quotient_pairs pairs_of quotient_words
returns-in-111 c = arm 111 c.args.i c.in-111.is

pub returns-in-112 : goal.returns-in-112
unfolding quotient_pairs pairs_of quotient_words
returns-in-112 c = arm 112 c.args.i c.in-112.is

pub returns-in-113 : goal.returns-in-113
unfolding quotient_pairs pairs_of quotient_words
returns-in-113 c = arm 113 c.args.i c.in-113.is

pub returns-in-114 : goal.returns-in-114
unfolding quotient_pairs pairs_of quotient_words
returns-in-114 c = arm 114 c.args.i c.in-114.is

pub returns-in-115 : goal.returns-in-115
unfolding quotient_pairs pairs_of quotient_words
returns-in-115 c = arm 115 c.args.i c.in-115.is

pub returns-in-116 : goal.returns-in-116
unfolding quotient_pairs pairs_of quotient_words
returns-in-116 c = arm 116 c.args.i c.in-116.is

pub returns-in-117 : goal.returns-in-117
unfolding quotient_pairs pairs_of quotient_words
returns-in-117 c = arm 117 c.args.i c.in-117.is

pub returns-in-118 : goal.returns-in-118
unfolding quotient_pairs pairs_of quotient_words
returns-in-118 c = arm 118 c.args.i c.in-118.is

pub returns-in-119 : goal.returns-in-119
unfolding quotient_pairs pairs_of quotient_words
returns-in-119 c = arm 119 c.args.i c.in-119.is

pub returns-in-120 : goal.returns-in-120
unfolding quotient_pairs pairs_of quotient_words
returns-in-120 c = arm 120 c.args.i c.in-120.is

pub returns-in-121 : goal.returns-in-121
unfolding quotient_pairs pairs_of quotient_words
returns-in-121 c = arm 121 c.args.i c.in-121.is

pub returns-in-122 : goal.returns-in-122
unfolding quotient_pairs pairs_of quotient_words
returns-in-122 c = arm 122 c.args.i c.in-122.is

pub returns-in-123 : goal.returns-in-123
unfolding quotient_pairs pairs_of quotient_words
returns-in-123 c = arm 123 c.args.i c.in-123.is

pub returns-in-124 : goal.returns-in-124
unfolding quotient_pairs pairs_of quotient_words
returns-in-124 c = arm 124 c.args.i c.in-124.is

pub returns-in-125 : goal.returns-in-125
unfolding quotient_pairs pairs_of quotient_words
returns-in-125 c = arm 125 c.args.i c.in-125.is

pub returns-in-126 : goal.returns-in-126
unfolding quotient_pairs pairs_of quotient_words
returns-in-126 c = arm 126 c.args.i c.in-126.is

pub returns-in-127 : goal.returns-in-127
unfolding quotient_pairs pairs_of quotient_words
returns-in-127 c = arm 127 c.args.i c.in-127.is

pub returns-in-128 : goal.returns-in-128
unfolding quotient_pairs pairs_of quotient_words
returns-in-128 c = arm 128 c.args.i c.in-128.is

pub returns-in-129 : goal.returns-in-129
unfolding quotient_pairs pairs_of quotient_words
returns-in-129 c = arm 129 c.args.i c.in-129.is

pub returns-in-130 : goal.returns-in-130
unfolding quotient_pairs pairs_of quotient_words
returns-in-130 c = arm 130 c.args.i c.in-130.is

pub returns-in-131 : goal.returns-in-131
unfolding quotient_pairs pairs_of quotient_words
returns-in-131 c = arm 131 c.args.i c.in-131.is

pub returns-in-132 : goal.returns-in-132
unfolding quotient_pairs pairs_of quotient_words
returns-in-132 c = arm 132 c.args.i c.in-132.is

pub returns-in-133 : goal.returns-in-133
unfolding quotient_pairs pairs_of quotient_words
returns-in-133 c = arm 133 c.args.i c.in-133.is

pub returns-in-134 : goal.returns-in-134
unfolding quotient_pairs pairs_of quotient_words
returns-in-134 c = arm 134 c.args.i c.in-134.is

pub returns-in-135 : goal.returns-in-135
unfolding quotient_pairs pairs_of quotient_words
returns-in-135 c = arm 135 c.args.i c.in-135.is

pub returns-in-136 : goal.returns-in-136
unfolding quotient_pairs pairs_of quotient_words
returns-in-136 c = arm 136 c.args.i c.in-136.is

pub returns-in-137 : goal.returns-in-137
unfolding quotient_pairs pairs_of quotient_words
returns-in-137 c = arm 137 c.args.i c.in-137.is

pub returns-in-138 : goal.returns-in-138
unfolding quotient_pairs pairs_of quotient_words
returns-in-138 c = arm 138 c.args.i c.in-138.is

pub returns-in-139 : goal.returns-in-139
unfolding quotient_pairs pairs_of quotient_words
returns-in-139 c = arm 139 c.args.i c.in-139.is

pub returns-in-140 : goal.returns-in-140
unfolding quotient_pairs pairs_of quotient_words
returns-in-140 c = arm 140 c.args.i c.in-140.is

pub returns-in-141 : goal.returns-in-141
unfolding quotient_pairs pairs_of quotient_words
returns-in-141 c = arm 141 c.args.i c.in-141.is

pub returns-in-142 : goal.returns-in-142
unfolding quotient_pairs pairs_of quotient_words
returns-in-142 c = arm 142 c.args.i c.in-142.is

pub returns-in-143 : goal.returns-in-143
unfolding quotient_pairs pairs_of quotient_words
returns-in-143 c = arm 143 c.args.i c.in-143.is

pub returns-in-144 : goal.returns-in-144
unfolding quotient_pairs pairs_of quotient_words
returns-in-144 c = arm 144 c.args.i c.in-144.is

pub returns-in-145 : goal.returns-in-145
unfolding quotient_pairs pairs_of quotient_words
returns-in-145 c = arm 145 c.args.i c.in-145.is

pub returns-in-146 : goal.returns-in-146
unfolding quotient_pairs pairs_of quotient_words
returns-in-146 c = arm 146 c.args.i c.in-146.is

pub returns-in-147 : goal.returns-in-147
unfolding quotient_pairs pairs_of quotient_words
returns-in-147 c = arm 147 c.args.i c.in-147.is

pub returns-in-148 : goal.returns-in-148
unfolding quotient_pairs pairs_of quotient_words
returns-in-148 c = arm 148 c.args.i c.in-148.is

pub returns-in-149 : goal.returns-in-149
unfolding quotient_pairs pairs_of quotient_words
returns-in-149 c = arm 149 c.args.i c.in-149.is

pub returns-in-150 : goal.returns-in-150
unfolding quotient_pairs pairs_of quotient_words
returns-in-150 c = arm 150 c.args.i c.in-150.is

pub returns-in-151 : goal.returns-in-151
unfolding quotient_pairs pairs_of quotient_words
returns-in-151 c = arm 151 c.args.i c.in-151.is

pub returns-in-152 : goal.returns-in-152
unfolding quotient_pairs pairs_of quotient_words
returns-in-152 c = arm 152 c.args.i c.in-152.is

pub returns-in-153 : goal.returns-in-153
unfolding quotient_pairs pairs_of quotient_words
returns-in-153 c = arm 153 c.args.i c.in-153.is

pub returns-in-154 : goal.returns-in-154
unfolding quotient_pairs pairs_of quotient_words
returns-in-154 c = arm 154 c.args.i c.in-154.is

pub returns-in-155 : goal.returns-in-155
unfolding quotient_pairs pairs_of quotient_words
returns-in-155 c = arm 155 c.args.i c.in-155.is

pub returns-in-156 : goal.returns-in-156
unfolding quotient_pairs pairs_of quotient_words
returns-in-156 c = arm 156 c.args.i c.in-156.is

pub returns-in-157 : goal.returns-in-157
unfolding quotient_pairs pairs_of quotient_words
returns-in-157 c = arm 157 c.args.i c.in-157.is

pub returns-in-158 : goal.returns-in-158
unfolding quotient_pairs pairs_of quotient_words
returns-in-158 c = arm 158 c.args.i c.in-158.is

pub returns-in-159 : goal.returns-in-159
unfolding quotient_pairs pairs_of quotient_words
returns-in-159 c = arm 159 c.args.i c.in-159.is

pub returns-in-160 : goal.returns-in-160
unfolding quotient_pairs pairs_of quotient_words
returns-in-160 c = arm 160 c.args.i c.in-160.is

pub returns-in-161 : goal.returns-in-161
unfolding quotient_pairs pairs_of quotient_words
returns-in-161 c = arm 161 c.args.i c.in-161.is

pub returns-in-162 : goal.returns-in-162
unfolding quotient_pairs pairs_of quotient_words
returns-in-162 c = arm 162 c.args.i c.in-162.is

pub returns-in-163 : goal.returns-in-163
unfolding quotient_pairs pairs_of quotient_words
returns-in-163 c = arm 163 c.args.i c.in-163.is

pub returns-in-164 : goal.returns-in-164
unfolding quotient_pairs pairs_of quotient_words
returns-in-164 c = arm 164 c.args.i c.in-164.is

pub returns-in-165 : goal.returns-in-165
unfolding quotient_pairs pairs_of quotient_words
returns-in-165 c = arm 165 c.args.i c.in-165.is

pub returns-in-166 : goal.returns-in-166
unfolding quotient_pairs pairs_of quotient_words
returns-in-166 c = arm 166 c.args.i c.in-166.is

pub returns-in-167 : goal.returns-in-167
unfolding quotient_pairs pairs_of quotient_words
returns-in-167 c = arm 167 c.args.i c.in-167.is

pub returns-in-168 : goal.returns-in-168
unfolding quotient_pairs pairs_of quotient_words
returns-in-168 c = arm 168 c.args.i c.in-168.is

pub returns-in-169 : goal.returns-in-169
unfolding quotient_pairs pairs_of quotient_words
returns-in-169 c = arm 169 c.args.i c.in-169.is

pub returns-in-170 : goal.returns-in-170
unfolding quotient_pairs pairs_of quotient_words
returns-in-170 c = arm 170 c.args.i c.in-170.is

pub returns-in-171 : goal.returns-in-171
unfolding quotient_pairs pairs_of quotient_words
returns-in-171 c = arm 171 c.args.i c.in-171.is

pub returns-in-172 : goal.returns-in-172
unfolding quotient_pairs pairs_of quotient_words
returns-in-172 c = arm 172 c.args.i c.in-172.is

pub returns-in-173 : goal.returns-in-173
unfolding quotient_pairs pairs_of quotient_words
returns-in-173 c = arm 173 c.args.i c.in-173.is

pub returns-in-174 : goal.returns-in-174
unfolding quotient_pairs pairs_of quotient_words
returns-in-174 c = arm 174 c.args.i c.in-174.is

pub returns-in-175 : goal.returns-in-175
unfolding quotient_pairs pairs_of quotient_words
returns-in-175 c = arm 175 c.args.i c.in-175.is

pub returns-in-176 : goal.returns-in-176
unfolding quotient_pairs pairs_of quotient_words
returns-in-176 c = arm 176 c.args.i c.in-176.is

pub returns-in-177 : goal.returns-in-177
unfolding quotient_pairs pairs_of quotient_words
returns-in-177 c = arm 177 c.args.i c.in-177.is

pub returns-in-178 : goal.returns-in-178
unfolding quotient_pairs pairs_of quotient_words
returns-in-178 c = arm 178 c.args.i c.in-178.is

pub returns-in-179 : goal.returns-in-179
unfolding quotient_pairs pairs_of quotient_words
returns-in-179 c = arm 179 c.args.i c.in-179.is

pub returns-in-180 : goal.returns-in-180
unfolding quotient_pairs pairs_of quotient_words
returns-in-180 c = arm 180 c.args.i c.in-180.is

pub returns-in-181 : goal.returns-in-181
unfolding quotient_pairs pairs_of quotient_words
returns-in-181 c = arm 181 c.args.i c.in-181.is

pub returns-in-182 : goal.returns-in-182
unfolding quotient_pairs pairs_of quotient_words
returns-in-182 c = arm 182 c.args.i c.in-182.is

pub returns-in-183 : goal.returns-in-183
unfolding quotient_pairs pairs_of quotient_words
returns-in-183 c = arm 183 c.args.i c.in-183.is

pub returns-in-184 : goal.returns-in-184
unfolding quotient_pairs pairs_of quotient_words
returns-in-184 c = arm 184 c.args.i c.in-184.is

pub returns-in-185 : goal.returns-in-185
unfolding quotient_pairs pairs_of quotient_words
returns-in-185 c = arm 185 c.args.i c.in-185.is

pub returns-in-186 : goal.returns-in-186
unfolding quotient_pairs pairs_of quotient_words
returns-in-186 c = arm 186 c.args.i c.in-186.is

pub returns-in-187 : goal.returns-in-187
unfolding quotient_pairs pairs_of quotient_words
returns-in-187 c = arm 187 c.args.i c.in-187.is

pub returns-in-188 : goal.returns-in-188
unfolding quotient_pairs pairs_of quotient_words
returns-in-188 c = arm 188 c.args.i c.in-188.is

pub returns-in-189 : goal.returns-in-189
unfolding quotient_pairs pairs_of quotient_words
returns-in-189 c = arm 189 c.args.i c.in-189.is

pub returns-in-190 : goal.returns-in-190
unfolding quotient_pairs pairs_of quotient_words
returns-in-190 c = arm 190 c.args.i c.in-190.is

pub returns-in-191 : goal.returns-in-191
unfolding quotient_pairs pairs_of quotient_words
returns-in-191 c = arm 191 c.args.i c.in-191.is

pub returns-in-192 : goal.returns-in-192
unfolding quotient_pairs pairs_of quotient_words
returns-in-192 c = arm 192 c.args.i c.in-192.is

pub returns-in-193 : goal.returns-in-193
unfolding quotient_pairs pairs_of quotient_words
returns-in-193 c = arm 193 c.args.i c.in-193.is

pub returns-in-194 : goal.returns-in-194
unfolding quotient_pairs pairs_of quotient_words
returns-in-194 c = arm 194 c.args.i c.in-194.is

pub returns-in-195 : goal.returns-in-195
unfolding quotient_pairs pairs_of quotient_words
returns-in-195 c = arm 195 c.args.i c.in-195.is

pub returns-in-196 : goal.returns-in-196
unfolding quotient_pairs pairs_of quotient_words
returns-in-196 c = arm 196 c.args.i c.in-196.is

pub returns-in-197 : goal.returns-in-197
unfolding quotient_pairs pairs_of quotient_words
returns-in-197 c = arm 197 c.args.i c.in-197.is

pub returns-in-198 : goal.returns-in-198
unfolding quotient_pairs pairs_of quotient_words
returns-in-198 c = arm 198 c.args.i c.in-198.is

pub returns-in-199 : goal.returns-in-199
unfolding quotient_pairs pairs_of quotient_words
returns-in-199 c = arm 199 c.args.i c.in-199.is

pub returns-in-200 : goal.returns-in-200
unfolding quotient_pairs pairs_of quotient_words
returns-in-200 c = arm 200 c.args.i c.in-200.is

pub returns-in-201 : goal.returns-in-201
unfolding quotient_pairs pairs_of quotient_words
returns-in-201 c = arm 201 c.args.i c.in-201.is

pub returns-in-202 : goal.returns-in-202
unfolding quotient_pairs pairs_of quotient_words
returns-in-202 c = arm 202 c.args.i c.in-202.is

pub returns-in-203 : goal.returns-in-203
unfolding quotient_pairs pairs_of quotient_words
returns-in-203 c = arm 203 c.args.i c.in-203.is

pub returns-in-204 : goal.returns-in-204
unfolding quotient_pairs pairs_of quotient_words
returns-in-204 c = arm 204 c.args.i c.in-204.is

pub returns-in-205 : goal.returns-in-205
unfolding quotient_pairs pairs_of quotient_words
returns-in-205 c = arm 205 c.args.i c.in-205.is

pub returns-in-206 : goal.returns-in-206
unfolding quotient_pairs pairs_of quotient_words
returns-in-206 c = arm 206 c.args.i c.in-206.is

pub returns-in-207 : goal.returns-in-207
unfolding quotient_pairs pairs_of quotient_words
returns-in-207 c = arm 207 c.args.i c.in-207.is

pub returns-in-208 : goal.returns-in-208
unfolding quotient_pairs pairs_of quotient_words
returns-in-208 c = arm 208 c.args.i c.in-208.is

pub returns-in-209 : goal.returns-in-209
unfolding quotient_pairs pairs_of quotient_words
returns-in-209 c = arm 209 c.args.i c.in-209.is

pub returns-in-210 : goal.returns-in-210
unfolding quotient_pairs pairs_of quotient_words
returns-in-210 c = arm 210 c.args.i c.in-210.is

pub returns-in-211 : goal.returns-in-211
unfolding quotient_pairs pairs_of quotient_words
returns-in-211 c = arm 211 c.args.i c.in-211.is

pub returns-in-212 : goal.returns-in-212
unfolding quotient_pairs pairs_of quotient_words
returns-in-212 c = arm 212 c.args.i c.in-212.is

pub returns-in-213 : goal.returns-in-213
unfolding quotient_pairs pairs_of quotient_words
returns-in-213 c = arm 213 c.args.i c.in-213.is

pub returns-in-214 : goal.returns-in-214
unfolding quotient_pairs pairs_of quotient_words
returns-in-214 c = arm 214 c.args.i c.in-214.is

pub returns-in-215 : goal.returns-in-215
unfolding quotient_pairs pairs_of quotient_words
returns-in-215 c = arm 215 c.args.i c.in-215.is

pub returns-in-216 : goal.returns-in-216
unfolding quotient_pairs pairs_of quotient_words
returns-in-216 c = arm 216 c.args.i c.in-216.is

pub returns-in-217 : goal.returns-in-217
unfolding quotient_pairs pairs_of quotient_words
returns-in-217 c = arm 217 c.args.i c.in-217.is

pub returns-in-218 : goal.returns-in-218
unfolding quotient_pairs pairs_of quotient_words
returns-in-218 c = arm 218 c.args.i c.in-218.is

pub returns-in-219 : goal.returns-in-219
unfolding quotient_pairs pairs_of quotient_words
returns-in-219 c = arm 219 c.args.i c.in-219.is

pub returns-in-220 : goal.returns-in-220
unfolding quotient_pairs pairs_of quotient_words
returns-in-220 c = arm 220 c.args.i c.in-220.is

pub returns-in-221 : goal.returns-in-221
unfolding quotient_pairs pairs_of quotient_words
returns-in-221 c = arm 221 c.args.i c.in-221.is

pub returns-in-222 : goal.returns-in-222
unfolding quotient_pairs pairs_of quotient_words
returns-in-222 c = arm 222 c.args.i c.in-222.is

pub returns-in-223 : goal.returns-in-223
unfolding quotient_pairs pairs_of quotient_words
returns-in-223 c = arm 223 c.args.i c.in-223.is

pub returns-in-224 : goal.returns-in-224
unfolding quotient_pairs pairs_of quotient_words
returns-in-224 c = arm 224 c.args.i c.in-224.is

pub returns-in-225 : goal.returns-in-225
unfolding quotient_pairs pairs_of quotient_words
returns-in-225 c = arm 225 c.args.i c.in-225.is

pub returns-in-226 : goal.returns-in-226
unfolding quotient_pairs pairs_of quotient_words
returns-in-226 c = arm 226 c.args.i c.in-226.is

pub returns-in-227 : goal.returns-in-227
unfolding quotient_pairs pairs_of quotient_words
returns-in-227 c = arm 227 c.args.i c.in-227.is

pub returns-in-228 : goal.returns-in-228
unfolding quotient_pairs pairs_of quotient_words
returns-in-228 c = arm 228 c.args.i c.in-228.is

pub returns-in-229 : goal.returns-in-229
unfolding quotient_pairs pairs_of quotient_words
returns-in-229 c = arm 229 c.args.i c.in-229.is

pub returns-in-230 : goal.returns-in-230
unfolding quotient_pairs pairs_of quotient_words
returns-in-230 c = arm 230 c.args.i c.in-230.is

pub returns-in-231 : goal.returns-in-231
unfolding quotient_pairs pairs_of quotient_words
returns-in-231 c = arm 231 c.args.i c.in-231.is

pub returns-in-232 : goal.returns-in-232
unfolding quotient_pairs pairs_of quotient_words
returns-in-232 c = arm 232 c.args.i c.in-232.is

pub returns-in-233 : goal.returns-in-233
unfolding quotient_pairs pairs_of quotient_words
returns-in-233 c = arm 233 c.args.i c.in-233.is

pub returns-in-234 : goal.returns-in-234
unfolding quotient_pairs pairs_of quotient_words
returns-in-234 c = arm 234 c.args.i c.in-234.is

pub returns-in-235 : goal.returns-in-235
unfolding quotient_pairs pairs_of quotient_words
returns-in-235 c = arm 235 c.args.i c.in-235.is

pub returns-in-236 : goal.returns-in-236
unfolding quotient_pairs pairs_of quotient_words
returns-in-236 c = arm 236 c.args.i c.in-236.is

pub returns-in-237 : goal.returns-in-237
unfolding quotient_pairs pairs_of quotient_words
returns-in-237 c = arm 237 c.args.i c.in-237.is

pub returns-in-238 : goal.returns-in-238
unfolding quotient_pairs pairs_of quotient_words
returns-in-238 c = arm 238 c.args.i c.in-238.is

pub returns-in-239 : goal.returns-in-239
unfolding quotient_pairs pairs_of quotient_words
returns-in-239 c = arm 239 c.args.i c.in-239.is

pub returns-in-240 : goal.returns-in-240
unfolding quotient_pairs pairs_of quotient_words
returns-in-240 c = arm 240 c.args.i c.in-240.is

pub returns-in-241 : goal.returns-in-241
unfolding quotient_pairs pairs_of quotient_words
returns-in-241 c = arm 241 c.args.i c.in-241.is

pub returns-in-242 : goal.returns-in-242
unfolding quotient_pairs pairs_of quotient_words
returns-in-242 c = arm 242 c.args.i c.in-242.is

pub returns-in-243 : goal.returns-in-243
unfolding quotient_pairs pairs_of quotient_words
returns-in-243 c = arm 243 c.args.i c.in-243.is

pub returns-in-244 : goal.returns-in-244
unfolding quotient_pairs pairs_of quotient_words
returns-in-244 c = arm 244 c.args.i c.in-244.is

pub returns-in-245 : goal.returns-in-245
unfolding quotient_pairs pairs_of quotient_words
returns-in-245 c = arm 245 c.args.i c.in-245.is

pub returns-in-246 : goal.returns-in-246
unfolding quotient_pairs pairs_of quotient_words
returns-in-246 c = arm 246 c.args.i c.in-246.is

pub returns-in-247 : goal.returns-in-247
unfolding quotient_pairs pairs_of quotient_words
returns-in-247 c = arm 247 c.args.i c.in-247.is

pub returns-in-248 : goal.returns-in-248
unfolding quotient_pairs pairs_of quotient_words
returns-in-248 c = arm 248 c.args.i c.in-248.is

pub returns-in-249 : goal.returns-in-249
unfolding quotient_pairs pairs_of quotient_words
returns-in-249 c = arm 249 c.args.i c.in-249.is

pub returns-in-250 : goal.returns-in-250
unfolding quotient_pairs pairs_of quotient_words
returns-in-250 c = arm 250 c.args.i c.in-250.is

pub returns-in-251 : goal.returns-in-251
unfolding quotient_pairs pairs_of quotient_words
returns-in-251 c = arm 251 c.args.i c.in-251.is

pub returns-in-252 : goal.returns-in-252
unfolding quotient_pairs pairs_of quotient_words
returns-in-252 c = arm 252 c.args.i c.in-252.is

pub returns-in-253 : goal.returns-in-253
unfolding quotient_pairs pairs_of quotient_words
returns-in-253 c = arm 253 c.args.i c.in-253.is

pub returns-in-254 : goal.returns-in-254
unfolding quotient_pairs pairs_of quotient_words
returns-in-254 c = arm 254 c.args.i c.in-254.is

pub returns-in-255 : goal.returns-in-255
unfolding quotient_pairs pairs_of quotient_words
returns-in-255 c = arm 255 c.args.i c.in-255.is

pub returns-in-256 : goal.returns-in-256
unfolding quotient_pairs pairs_of quotient_words
returns-in-256 c = arm 256 c.args.i c.in-256.is

pub returns-in-257 : goal.returns-in-257
unfolding quotient_pairs pairs_of quotient_words
returns-in-257 c = arm 257 c.args.i c.in-257.is

pub returns-in-258 : goal.returns-in-258
unfolding quotient_pairs pairs_of quotient_words
returns-in-258 c = arm 258 c.args.i c.in-258.is

pub returns-in-259 : goal.returns-in-259
unfolding quotient_pairs pairs_of quotient_words
returns-in-259 c = arm 259 c.args.i c.in-259.is

pub returns-in-260 : goal.returns-in-260
unfolding quotient_pairs pairs_of quotient_words
returns-in-260 c = arm 260 c.args.i c.in-260.is

pub returns-in-261 : goal.returns-in-261
unfolding quotient_pairs pairs_of quotient_words
returns-in-261 c = arm 261 c.args.i c.in-261.is

pub returns-in-262 : goal.returns-in-262
unfolding quotient_pairs pairs_of quotient_words
returns-in-262 c = arm 262 c.args.i c.in-262.is

pub returns-in-263 : goal.returns-in-263
unfolding quotient_pairs pairs_of quotient_words
returns-in-263 c = arm 263 c.args.i c.in-263.is

pub returns-in-264 : goal.returns-in-264
unfolding quotient_pairs pairs_of quotient_words
returns-in-264 c = arm 264 c.args.i c.in-264.is

pub returns-in-265 : goal.returns-in-265
unfolding quotient_pairs pairs_of quotient_words
returns-in-265 c = arm 265 c.args.i c.in-265.is

pub returns-in-266 : goal.returns-in-266
unfolding quotient_pairs pairs_of quotient_words
returns-in-266 c = arm 266 c.args.i c.in-266.is

pub returns-in-267 : goal.returns-in-267
unfolding quotient_pairs pairs_of quotient_words
returns-in-267 c = arm 267 c.args.i c.in-267.is

pub returns-in-268 : goal.returns-in-268
unfolding quotient_pairs pairs_of quotient_words
returns-in-268 c = arm 268 c.args.i c.in-268.is

pub returns-in-269 : goal.returns-in-269
unfolding quotient_pairs pairs_of quotient_words
returns-in-269 c = arm 269 c.args.i c.in-269.is

pub returns-in-270 : goal.returns-in-270
unfolding quotient_pairs pairs_of quotient_words
returns-in-270 c = arm 270 c.args.i c.in-270.is

pub returns-in-271 : goal.returns-in-271
unfolding quotient_pairs pairs_of quotient_words
returns-in-271 c = arm 271 c.args.i c.in-271.is

pub returns-in-272 : goal.returns-in-272
unfolding quotient_pairs pairs_of quotient_words
returns-in-272 c = arm 272 c.args.i c.in-272.is

pub returns-in-273 : goal.returns-in-273
unfolding quotient_pairs pairs_of quotient_words
returns-in-273 c = arm 273 c.args.i c.in-273.is

pub returns-in-274 : goal.returns-in-274
unfolding quotient_pairs pairs_of quotient_words
returns-in-274 c = arm 274 c.args.i c.in-274.is

pub returns-in-275 : goal.returns-in-275
unfolding quotient_pairs pairs_of quotient_words
returns-in-275 c = arm 275 c.args.i c.in-275.is

pub returns-in-276 : goal.returns-in-276
unfolding quotient_pairs pairs_of quotient_words
returns-in-276 c = arm 276 c.args.i c.in-276.is

pub returns-in-277 : goal.returns-in-277
unfolding quotient_pairs pairs_of quotient_words
returns-in-277 c = arm 277 c.args.i c.in-277.is

pub returns-in-278 : goal.returns-in-278
unfolding quotient_pairs pairs_of quotient_words
returns-in-278 c = arm 278 c.args.i c.in-278.is

pub returns-in-279 : goal.returns-in-279
unfolding quotient_pairs pairs_of quotient_words
returns-in-279 c = arm 279 c.args.i c.in-279.is

pub returns-in-280 : goal.returns-in-280
unfolding quotient_pairs pairs_of quotient_words
returns-in-280 c = arm 280 c.args.i c.in-280.is

pub returns-in-281 : goal.returns-in-281
unfolding quotient_pairs pairs_of quotient_words
returns-in-281 c = arm 281 c.args.i c.in-281.is

pub returns-in-282 : goal.returns-in-282
unfolding quotient_pairs pairs_of quotient_words
returns-in-282 c = arm 282 c.args.i c.in-282.is

pub returns-in-283 : goal.returns-in-283
unfolding quotient_pairs pairs_of quotient_words
returns-in-283 c = arm 283 c.args.i c.in-283.is

pub returns-in-284 : goal.returns-in-284
unfolding quotient_pairs pairs_of quotient_words
returns-in-284 c = arm 284 c.args.i c.in-284.is

pub returns-in-285 : goal.returns-in-285
unfolding quotient_pairs pairs_of quotient_words
returns-in-285 c = arm 285 c.args.i c.in-285.is

pub returns-in-286 : goal.returns-in-286
unfolding quotient_pairs pairs_of quotient_words
returns-in-286 c = arm 286 c.args.i c.in-286.is

pub returns-in-287 : goal.returns-in-287
unfolding quotient_pairs pairs_of quotient_words
returns-in-287 c = arm 287 c.args.i c.in-287.is

pub returns-in-288 : goal.returns-in-288
unfolding quotient_pairs pairs_of quotient_words
returns-in-288 c = arm 288 c.args.i c.in-288.is

pub returns-in-289 : goal.returns-in-289
unfolding quotient_pairs pairs_of quotient_words
returns-in-289 c = arm 289 c.args.i c.in-289.is

pub returns-in-290 : goal.returns-in-290
unfolding quotient_pairs pairs_of quotient_words
returns-in-290 c = arm 290 c.args.i c.in-290.is

pub returns-in-291 : goal.returns-in-291
unfolding quotient_pairs pairs_of quotient_words
returns-in-291 c = arm 291 c.args.i c.in-291.is

pub returns-in-292 : goal.returns-in-292
unfolding quotient_pairs pairs_of quotient_words
returns-in-292 c = arm 292 c.args.i c.in-292.is

pub returns-in-293 : goal.returns-in-293
unfolding quotient_pairs pairs_of quotient_words
returns-in-293 c = arm 293 c.args.i c.in-293.is

pub returns-in-294 : goal.returns-in-294
unfolding quotient_pairs pairs_of quotient_words
returns-in-294 c = arm 294 c.args.i c.in-294.is

pub returns-in-295 : goal.returns-in-295
unfolding quotient_pairs pairs_of quotient_words
returns-in-295 c = arm 295 c.args.i c.in-295.is

pub returns-in-296 : goal.returns-in-296
unfolding quotient_pairs pairs_of quotient_words
returns-in-296 c = arm 296 c.args.i c.in-296.is

pub returns-in-297 : goal.returns-in-297
unfolding quotient_pairs pairs_of quotient_words
returns-in-297 c = arm 297 c.args.i c.in-297.is

pub returns-in-298 : goal.returns-in-298
unfolding quotient_pairs pairs_of quotient_words
returns-in-298 c = arm 298 c.args.i c.in-298.is

pub returns-in-299 : goal.returns-in-299
unfolding quotient_pairs pairs_of quotient_words
returns-in-299 c = arm 299 c.args.i c.in-299.is

pub returns-in-300 : goal.returns-in-300
unfolding quotient_pairs pairs_of quotient_words
returns-in-300 c = arm 300 c.args.i c.in-300.is

pub returns-in-301 : goal.returns-in-301
unfolding quotient_pairs pairs_of quotient_words
returns-in-301 c = arm 301 c.args.i c.in-301.is

pub returns-in-302 : goal.returns-in-302
unfolding quotient_pairs pairs_of quotient_words
returns-in-302 c = arm 302 c.args.i c.in-302.is

pub returns-in-303 : goal.returns-in-303
unfolding quotient_pairs pairs_of quotient_words
returns-in-303 c = arm 303 c.args.i c.in-303.is

pub returns-in-304 : goal.returns-in-304
unfolding quotient_pairs pairs_of quotient_words
returns-in-304 c = arm 304 c.args.i c.in-304.is

pub returns-in-305 : goal.returns-in-305
unfolding quotient_pairs pairs_of quotient_words
returns-in-305 c = arm 305 c.args.i c.in-305.is

pub returns-in-306 : goal.returns-in-306
unfolding quotient_pairs pairs_of quotient_words
returns-in-306 c = arm 306 c.args.i c.in-306.is

pub returns-in-307 : goal.returns-in-307
unfolding quotient_pairs pairs_of quotient_words
returns-in-307 c = arm 307 c.args.i c.in-307.is

pub returns-in-308 : goal.returns-in-308
unfolding quotient_pairs pairs_of quotient_words
returns-in-308 c = arm 308 c.args.i c.in-308.is

pub returns-in-309 : goal.returns-in-309
unfolding quotient_pairs pairs_of quotient_words
returns-in-309 c = arm 309 c.args.i c.in-309.is

pub returns-in-310 : goal.returns-in-310
unfolding quotient_pairs pairs_of quotient_words
returns-in-310 c = arm 310 c.args.i c.in-310.is

pub returns-in-311 : goal.returns-in-311
unfolding quotient_pairs pairs_of quotient_words
returns-in-311 c = arm 311 c.args.i c.in-311.is

pub returns-in-312 : goal.returns-in-312
unfolding quotient_pairs pairs_of quotient_words
returns-in-312 c = arm 312 c.args.i c.in-312.is

pub returns-in-313 : goal.returns-in-313
unfolding quotient_pairs pairs_of quotient_words
returns-in-313 c = arm 313 c.args.i c.in-313.is

pub returns-in-314 : goal.returns-in-314
unfolding quotient_pairs pairs_of quotient_words
returns-in-314 c = arm 314 c.args.i c.in-314.is

pub returns-in-315 : goal.returns-in-315
unfolding quotient_pairs pairs_of quotient_words
returns-in-315 c = arm 315 c.args.i c.in-315.is

pub returns-in-316 : goal.returns-in-316
unfolding quotient_pairs pairs_of quotient_words
returns-in-316 c = arm 316 c.args.i c.in-316.is

pub returns-in-317 : goal.returns-in-317
unfolding quotient_pairs pairs_of quotient_words
returns-in-317 c = arm 317 c.args.i c.in-317.is

pub returns-in-318 : goal.returns-in-318
unfolding quotient_pairs pairs_of quotient_words
returns-in-318 c = arm 318 c.args.i c.in-318.is

pub returns-in-319 : goal.returns-in-319
unfolding quotient_pairs pairs_of quotient_words
returns-in-319 c = arm 319 c.args.i c.in-319.is

pub returns-in-320 : goal.returns-in-320
unfolding quotient_pairs pairs_of quotient_words
returns-in-320 c = arm 320 c.args.i c.in-320.is

pub returns-in-321 : goal.returns-in-321
unfolding quotient_pairs pairs_of quotient_words
returns-in-321 c = arm 321 c.args.i c.in-321.is

pub returns-in-322 : goal.returns-in-322
unfolding quotient_pairs pairs_of quotient_words
returns-in-322 c = arm 322 c.args.i c.in-322.is

pub returns-in-323 : goal.returns-in-323
unfolding quotient_pairs pairs_of quotient_words
returns-in-323 c = arm 323 c.args.i c.in-323.is

pub returns-in-324 : goal.returns-in-324
unfolding quotient_pairs pairs_of quotient_words
returns-in-324 c = arm 324 c.args.i c.in-324.is

pub returns-in-325 : goal.returns-in-325
unfolding quotient_pairs pairs_of quotient_words
returns-in-325 c = arm 325 c.args.i c.in-325.is

pub returns-in-326 : goal.returns-in-326
unfolding quotient_pairs pairs_of quotient_words
returns-in-326 c = arm 326 c.args.i c.in-326.is

pub returns-in-327 : goal.returns-in-327
unfolding quotient_pairs pairs_of quotient_words
returns-in-327 c = arm 327 c.args.i c.in-327.is

pub returns-in-328 : goal.returns-in-328
unfolding quotient_pairs pairs_of quotient_words
returns-in-328 c = arm 328 c.args.i c.in-328.is

pub returns-in-329 : goal.returns-in-329
unfolding quotient_pairs pairs_of quotient_words
returns-in-329 c = arm 329 c.args.i c.in-329.is

pub returns-in-330 : goal.returns-in-330
unfolding quotient_pairs pairs_of quotient_words
returns-in-330 c = arm 330 c.args.i c.in-330.is

pub returns-in-331 : goal.returns-in-331
unfolding quotient_pairs pairs_of quotient_words
returns-in-331 c = arm 331 c.args.i c.in-331.is

pub returns-in-332 : goal.returns-in-332
unfolding quotient_pairs pairs_of quotient_words
returns-in-332 c = arm 332 c.args.i c.in-332.is

pub returns-in-333 : goal.returns-in-333
unfolding quotient_pairs pairs_of quotient_words
returns-in-333 c = arm 333 c.args.i c.in-333.is

pub returns-in-334 : goal.returns-in-334
unfolding quotient_pairs pairs_of quotient_words
returns-in-334 c = arm 334 c.args.i c.in-334.is

pub returns-in-335 : goal.returns-in-335
unfolding quotient_pairs pairs_of quotient_words
returns-in-335 c = arm 335 c.args.i c.in-335.is

pub returns-in-336 : goal.returns-in-336
unfolding quotient_pairs pairs_of quotient_words
returns-in-336 c = arm 336 c.args.i c.in-336.is

pub returns-in-337 : goal.returns-in-337
unfolding quotient_pairs pairs_of quotient_words
returns-in-337 c = arm 337 c.args.i c.in-337.is

pub returns-in-338 : goal.returns-in-338
unfolding quotient_pairs pairs_of quotient_words
returns-in-338 c = arm 338 c.args.i c.in-338.is

pub returns-in-339 : goal.returns-in-339
unfolding quotient_pairs pairs_of quotient_words
returns-in-339 c = arm 339 c.args.i c.in-339.is

pub returns-in-340 : goal.returns-in-340
unfolding quotient_pairs pairs_of quotient_words
returns-in-340 c = arm 340 c.args.i c.in-340.is

pub returns-in-341 : goal.returns-in-341
unfolding quotient_pairs pairs_of quotient_words
returns-in-341 c = arm 341 c.args.i c.in-341.is

pub returns-in-342 : goal.returns-in-342
unfolding quotient_pairs pairs_of quotient_words
returns-in-342 c = arm 342 c.args.i c.in-342.is

pub returns-in-343 : goal.returns-in-343
unfolding quotient_pairs pairs_of quotient_words
returns-in-343 c = arm 343 c.args.i c.in-343.is

pub returns-in-344 : goal.returns-in-344
unfolding quotient_pairs pairs_of quotient_words
returns-in-344 c = arm 344 c.args.i c.in-344.is

pub returns-in-345 : goal.returns-in-345
unfolding quotient_pairs pairs_of quotient_words
returns-in-345 c = arm 345 c.args.i c.in-345.is

pub returns-in-346 : goal.returns-in-346
unfolding quotient_pairs pairs_of quotient_words
returns-in-346 c = arm 346 c.args.i c.in-346.is

pub returns-in-347 : goal.returns-in-347
unfolding quotient_pairs pairs_of quotient_words
returns-in-347 c = arm 347 c.args.i c.in-347.is

pub returns-in-348 : goal.returns-in-348
unfolding quotient_pairs pairs_of quotient_words
returns-in-348 c = arm 348 c.args.i c.in-348.is

pub returns-in-349 : goal.returns-in-349
unfolding quotient_pairs pairs_of quotient_words
returns-in-349 c = arm 349 c.args.i c.in-349.is

pub returns-in-350 : goal.returns-in-350
unfolding quotient_pairs pairs_of quotient_words
returns-in-350 c = arm 350 c.args.i c.in-350.is

pub returns-in-351 : goal.returns-in-351
unfolding quotient_pairs pairs_of quotient_words
returns-in-351 c = arm 351 c.args.i c.in-351.is

pub returns-in-352 : goal.returns-in-352
unfolding quotient_pairs pairs_of quotient_words
returns-in-352 c = arm 352 c.args.i c.in-352.is

pub returns-in-353 : goal.returns-in-353
unfolding quotient_pairs pairs_of quotient_words
returns-in-353 c = arm 353 c.args.i c.in-353.is

pub returns-in-354 : goal.returns-in-354
unfolding quotient_pairs pairs_of quotient_words
returns-in-354 c = arm 354 c.args.i c.in-354.is

pub returns-in-355 : goal.returns-in-355
unfolding quotient_pairs pairs_of quotient_words
returns-in-355 c = arm 355 c.args.i c.in-355.is

pub returns-in-356 : goal.returns-in-356
unfolding quotient_pairs pairs_of quotient_words
returns-in-356 c = arm 356 c.args.i c.in-356.is

pub returns-in-357 : goal.returns-in-357
unfolding quotient_pairs pairs_of quotient_words
returns-in-357 c = arm 357 c.args.i c.in-357.is

pub returns-in-358 : goal.returns-in-358
unfolding quotient_pairs pairs_of quotient_words
returns-in-358 c = arm 358 c.args.i c.in-358.is

pub returns-in-359 : goal.returns-in-359
unfolding quotient_pairs pairs_of quotient_words
returns-in-359 c = arm 359 c.args.i c.in-359.is

pub returns-in-360 : goal.returns-in-360
unfolding quotient_pairs pairs_of quotient_words
returns-in-360 c = arm 360 c.args.i c.in-360.is

pub returns-in-361 : goal.returns-in-361
unfolding quotient_pairs pairs_of quotient_words
returns-in-361 c = arm 361 c.args.i c.in-361.is

pub returns-in-362 : goal.returns-in-362
unfolding quotient_pairs pairs_of quotient_words
returns-in-362 c = arm 362 c.args.i c.in-362.is

pub returns-in-363 : goal.returns-in-363
unfolding quotient_pairs pairs_of quotient_words
returns-in-363 c = arm 363 c.args.i c.in-363.is

pub returns-in-364 : goal.returns-in-364
unfolding quotient_pairs pairs_of quotient_words
returns-in-364 c = arm 364 c.args.i c.in-364.is

pub returns-in-365 : goal.returns-in-365
unfolding quotient_pairs pairs_of quotient_words
returns-in-365 c = arm 365 c.args.i c.in-365.is

pub returns-in-366 : goal.returns-in-366
unfolding quotient_pairs pairs_of quotient_words
returns-in-366 c = arm 366 c.args.i c.in-366.is

pub returns-in-367 : goal.returns-in-367
unfolding quotient_pairs pairs_of quotient_words
returns-in-367 c = arm 367 c.args.i c.in-367.is

pub returns-in-368 : goal.returns-in-368
unfolding quotient_pairs pairs_of quotient_words
returns-in-368 c = arm 368 c.args.i c.in-368.is

pub returns-in-369 : goal.returns-in-369
unfolding quotient_pairs pairs_of quotient_words
returns-in-369 c = arm 369 c.args.i c.in-369.is

pub returns-in-370 : goal.returns-in-370
unfolding quotient_pairs pairs_of quotient_words
returns-in-370 c = arm 370 c.args.i c.in-370.is

pub returns-in-371 : goal.returns-in-371
unfolding quotient_pairs pairs_of quotient_words
returns-in-371 c = arm 371 c.args.i c.in-371.is

pub returns-in-372 : goal.returns-in-372
unfolding quotient_pairs pairs_of quotient_words
returns-in-372 c = arm 372 c.args.i c.in-372.is

pub returns-in-373 : goal.returns-in-373
unfolding quotient_pairs pairs_of quotient_words
returns-in-373 c = arm 373 c.args.i c.in-373.is

pub returns-in-374 : goal.returns-in-374
unfolding quotient_pairs pairs_of quotient_words
returns-in-374 c = arm 374 c.args.i c.in-374.is

pub returns-in-375 : goal.returns-in-375
unfolding quotient_pairs pairs_of quotient_words
returns-in-375 c = arm 375 c.args.i c.in-375.is

pub returns-in-376 : goal.returns-in-376
unfolding quotient_pairs pairs_of quotient_words
returns-in-376 c = arm 376 c.args.i c.in-376.is

pub returns-in-377 : goal.returns-in-377
unfolding quotient_pairs pairs_of quotient_words
returns-in-377 c = arm 377 c.args.i c.in-377.is

pub returns-in-378 : goal.returns-in-378
unfolding quotient_pairs pairs_of quotient_words
returns-in-378 c = arm 378 c.args.i c.in-378.is

pub returns-in-379 : goal.returns-in-379
unfolding quotient_pairs pairs_of quotient_words
returns-in-379 c = arm 379 c.args.i c.in-379.is

pub returns-in-380 : goal.returns-in-380
unfolding quotient_pairs pairs_of quotient_words
returns-in-380 c = arm 380 c.args.i c.in-380.is

pub returns-in-381 : goal.returns-in-381
unfolding quotient_pairs pairs_of quotient_words
returns-in-381 c = arm 381 c.args.i c.in-381.is

pub returns-in-382 : goal.returns-in-382
unfolding quotient_pairs pairs_of quotient_words
returns-in-382 c = arm 382 c.args.i c.in-382.is

pub returns-in-383 : goal.returns-in-383
unfolding quotient_pairs pairs_of quotient_words
returns-in-383 c = arm 383 c.args.i c.in-383.is

pub returns-in-384 : goal.returns-in-384
unfolding quotient_pairs pairs_of quotient_words
returns-in-384 c = arm 384 c.args.i c.in-384.is

pub returns-in-385 : goal.returns-in-385
unfolding quotient_pairs pairs_of quotient_words
returns-in-385 c = arm 385 c.args.i c.in-385.is

pub returns-in-386 : goal.returns-in-386
unfolding quotient_pairs pairs_of quotient_words
returns-in-386 c = arm 386 c.args.i c.in-386.is

pub returns-in-387 : goal.returns-in-387
unfolding quotient_pairs pairs_of quotient_words
returns-in-387 c = arm 387 c.args.i c.in-387.is

pub returns-in-388 : goal.returns-in-388
unfolding quotient_pairs pairs_of quotient_words
returns-in-388 c = arm 388 c.args.i c.in-388.is

pub returns-in-389 : goal.returns-in-389
unfolding quotient_pairs pairs_of quotient_words
returns-in-389 c = arm 389 c.args.i c.in-389.is

pub returns-in-390 : goal.returns-in-390
unfolding quotient_pairs pairs_of quotient_words
returns-in-390 c = arm 390 c.args.i c.in-390.is

pub returns-in-391 : goal.returns-in-391
unfolding quotient_pairs pairs_of quotient_words
returns-in-391 c = arm 391 c.args.i c.in-391.is

pub returns-in-392 : goal.returns-in-392
unfolding quotient_pairs pairs_of quotient_words
returns-in-392 c = arm 392 c.args.i c.in-392.is

pub returns-in-393 : goal.returns-in-393
unfolding quotient_pairs pairs_of quotient_words
returns-in-393 c = arm 393 c.args.i c.in-393.is

pub returns-in-394 : goal.returns-in-394
unfolding quotient_pairs pairs_of quotient_words
returns-in-394 c = arm 394 c.args.i c.in-394.is

pub returns-in-395 : goal.returns-in-395
unfolding quotient_pairs pairs_of quotient_words
returns-in-395 c = arm 395 c.args.i c.in-395.is

pub returns-in-396 : goal.returns-in-396
unfolding quotient_pairs pairs_of quotient_words
returns-in-396 c = arm 396 c.args.i c.in-396.is

pub returns-in-397 : goal.returns-in-397
unfolding quotient_pairs pairs_of quotient_words
returns-in-397 c = arm 397 c.args.i c.in-397.is

pub returns-in-398 : goal.returns-in-398
unfolding quotient_pairs pairs_of quotient_words
returns-in-398 c = arm 398 c.args.i c.in-398.is

pub returns-in-399 : goal.returns-in-399
unfolding quotient_pairs pairs_of quotient_words
returns-in-399 c = arm 399 c.args.i c.in-399.is

pub returns-in-400 : goal.returns-in-400
unfolding quotient_pairs pairs_of quotient_words
returns-in-400 c = arm 400 c.args.i c.in-400.is

pub returns-in-401 : goal.returns-in-401
unfolding quotient_pairs pairs_of quotient_words
returns-in-401 c = arm 401 c.args.i c.in-401.is

pub returns-in-402 : goal.returns-in-402
unfolding quotient_pairs pairs_of quotient_words
returns-in-402 c = arm 402 c.args.i c.in-402.is

pub returns-in-403 : goal.returns-in-403
unfolding quotient_pairs pairs_of quotient_words
returns-in-403 c = arm 403 c.args.i c.in-403.is

pub returns-in-404 : goal.returns-in-404
unfolding quotient_pairs pairs_of quotient_words
returns-in-404 c = arm 404 c.args.i c.in-404.is

pub returns-in-405 : goal.returns-in-405
unfolding quotient_pairs pairs_of quotient_words
returns-in-405 c = arm 405 c.args.i c.in-405.is

pub returns-in-406 : goal.returns-in-406
unfolding quotient_pairs pairs_of quotient_words
returns-in-406 c = arm 406 c.args.i c.in-406.is

pub returns-in-407 : goal.returns-in-407
unfolding quotient_pairs pairs_of quotient_words
returns-in-407 c = arm 407 c.args.i c.in-407.is

pub returns-in-408 : goal.returns-in-408
unfolding quotient_pairs pairs_of quotient_words
returns-in-408 c = arm 408 c.args.i c.in-408.is

pub returns-in-409 : goal.returns-in-409
unfolding quotient_pairs pairs_of quotient_words
returns-in-409 c = arm 409 c.args.i c.in-409.is

pub returns-in-410 : goal.returns-in-410
unfolding quotient_pairs pairs_of quotient_words
returns-in-410 c = arm 410 c.args.i c.in-410.is

pub returns-in-411 : goal.returns-in-411
unfolding quotient_pairs pairs_of quotient_words
returns-in-411 c = arm 411 c.args.i c.in-411.is

pub returns-in-412 : goal.returns-in-412
unfolding quotient_pairs pairs_of quotient_words
returns-in-412 c = arm 412 c.args.i c.in-412.is

pub returns-in-413 : goal.returns-in-413
unfolding quotient_pairs pairs_of quotient_words
returns-in-413 c = arm 413 c.args.i c.in-413.is

pub returns-in-414 : goal.returns-in-414
unfolding quotient_pairs pairs_of quotient_words
returns-in-414 c = arm 414 c.args.i c.in-414.is

pub returns-in-415 : goal.returns-in-415
unfolding quotient_pairs pairs_of quotient_words
returns-in-415 c = arm 415 c.args.i c.in-415.is

pub returns-in-416 : goal.returns-in-416
unfolding quotient_pairs pairs_of quotient_words
returns-in-416 c = arm 416 c.args.i c.in-416.is

pub returns-in-417 : goal.returns-in-417
unfolding quotient_pairs pairs_of quotient_words
returns-in-417 c = arm 417 c.args.i c.in-417.is

pub returns-in-418 : goal.returns-in-418
unfolding quotient_pairs pairs_of quotient_words
returns-in-418 c = arm 418 c.args.i c.in-418.is

pub returns-in-419 : goal.returns-in-419
unfolding quotient_pairs pairs_of quotient_words
returns-in-419 c = arm 419 c.args.i c.in-419.is

pub returns-in-420 : goal.returns-in-420
unfolding quotient_pairs pairs_of quotient_words
returns-in-420 c = arm 420 c.args.i c.in-420.is

pub returns-in-421 : goal.returns-in-421
unfolding quotient_pairs pairs_of quotient_words
returns-in-421 c = arm 421 c.args.i c.in-421.is

pub returns-in-422 : goal.returns-in-422
unfolding quotient_pairs pairs_of quotient_words
returns-in-422 c = arm 422 c.args.i c.in-422.is

pub returns-in-423 : goal.returns-in-423
unfolding quotient_pairs pairs_of quotient_words
returns-in-423 c = arm 423 c.args.i c.in-423.is

pub returns-in-424 : goal.returns-in-424
unfolding quotient_pairs pairs_of quotient_words
returns-in-424 c = arm 424 c.args.i c.in-424.is

pub returns-in-425 : goal.returns-in-425
unfolding quotient_pairs pairs_of quotient_words
returns-in-425 c = arm 425 c.args.i c.in-425.is

pub returns-in-426 : goal.returns-in-426
unfolding quotient_pairs pairs_of quotient_words
returns-in-426 c = arm 426 c.args.i c.in-426.is

pub returns-in-427 : goal.returns-in-427
unfolding quotient_pairs pairs_of quotient_words
returns-in-427 c = arm 427 c.args.i c.in-427.is

pub returns-in-428 : goal.returns-in-428
unfolding quotient_pairs pairs_of quotient_words
returns-in-428 c = arm 428 c.args.i c.in-428.is

pub returns-in-429 : goal.returns-in-429
unfolding quotient_pairs pairs_of quotient_words
returns-in-429 c = arm 429 c.args.i c.in-429.is

pub returns-in-430 : goal.returns-in-430
unfolding quotient_pairs pairs_of quotient_words
returns-in-430 c = arm 430 c.args.i c.in-430.is

pub returns-in-431 : goal.returns-in-431
unfolding quotient_pairs pairs_of quotient_words
returns-in-431 c = arm 431 c.args.i c.in-431.is

pub returns-in-432 : goal.returns-in-432
unfolding quotient_pairs pairs_of quotient_words
returns-in-432 c = arm 432 c.args.i c.in-432.is

pub returns-in-433 : goal.returns-in-433
unfolding quotient_pairs pairs_of quotient_words
returns-in-433 c = arm 433 c.args.i c.in-433.is

pub returns-in-434 : goal.returns-in-434
unfolding quotient_pairs pairs_of quotient_words
returns-in-434 c = arm 434 c.args.i c.in-434.is

pub returns-in-435 : goal.returns-in-435
unfolding quotient_pairs pairs_of quotient_words
returns-in-435 c = arm 435 c.args.i c.in-435.is

pub returns-in-436 : goal.returns-in-436
unfolding quotient_pairs pairs_of quotient_words
returns-in-436 c = arm 436 c.args.i c.in-436.is

pub returns-in-437 : goal.returns-in-437
unfolding quotient_pairs pairs_of quotient_words
returns-in-437 c = arm 437 c.args.i c.in-437.is

pub returns-in-438 : goal.returns-in-438
unfolding quotient_pairs pairs_of quotient_words
returns-in-438 c = arm 438 c.args.i c.in-438.is

pub returns-in-439 : goal.returns-in-439
unfolding quotient_pairs pairs_of quotient_words
returns-in-439 c = arm 439 c.args.i c.in-439.is

pub returns-in-440 : goal.returns-in-440
unfolding quotient_pairs pairs_of quotient_words
returns-in-440 c = arm 440 c.args.i c.in-440.is

pub returns-in-441 : goal.returns-in-441
unfolding quotient_pairs pairs_of quotient_words
returns-in-441 c = arm 441 c.args.i c.in-441.is

pub returns-in-442 : goal.returns-in-442
unfolding quotient_pairs pairs_of quotient_words
returns-in-442 c = arm 442 c.args.i c.in-442.is

pub returns-in-443 : goal.returns-in-443
unfolding quotient_pairs pairs_of quotient_words
returns-in-443 c = arm 443 c.args.i c.in-443.is

pub returns-in-444 : goal.returns-in-444
unfolding quotient_pairs pairs_of quotient_words
returns-in-444 c = arm 444 c.args.i c.in-444.is

pub returns-in-445 : goal.returns-in-445
unfolding quotient_pairs pairs_of quotient_words
returns-in-445 c = arm 445 c.args.i c.in-445.is

pub returns-in-446 : goal.returns-in-446
unfolding quotient_pairs pairs_of quotient_words
returns-in-446 c = arm 446 c.args.i c.in-446.is

pub returns-in-447 : goal.returns-in-447
unfolding quotient_pairs pairs_of quotient_words
returns-in-447 c = arm 447 c.args.i c.in-447.is

pub returns-in-448 : goal.returns-in-448
unfolding quotient_pairs pairs_of quotient_words
returns-in-448 c = arm 448 c.args.i c.in-448.is

pub returns-in-449 : goal.returns-in-449
unfolding quotient_pairs pairs_of quotient_words
returns-in-449 c = arm 449 c.args.i c.in-449.is

pub returns-in-450 : goal.returns-in-450
unfolding quotient_pairs pairs_of quotient_words
returns-in-450 c = arm 450 c.args.i c.in-450.is

pub returns-in-451 : goal.returns-in-451
unfolding quotient_pairs pairs_of quotient_words
returns-in-451 c = arm 451 c.args.i c.in-451.is

pub returns-in-452 : goal.returns-in-452
unfolding quotient_pairs pairs_of quotient_words
returns-in-452 c = arm 452 c.args.i c.in-452.is

pub returns-in-453 : goal.returns-in-453
unfolding quotient_pairs pairs_of quotient_words
returns-in-453 c = arm 453 c.args.i c.in-453.is

pub returns-in-454 : goal.returns-in-454
unfolding quotient_pairs pairs_of quotient_words
returns-in-454 c = arm 454 c.args.i c.in-454.is

pub returns-in-455 : goal.returns-in-455
unfolding quotient_pairs pairs_of quotient_words
returns-in-455 c = arm 455 c.args.i c.in-455.is

pub returns-in-456 : goal.returns-in-456
unfolding quotient_pairs pairs_of quotient_words
returns-in-456 c = arm 456 c.args.i c.in-456.is

pub returns-in-457 : goal.returns-in-457
unfolding quotient_pairs pairs_of quotient_words
returns-in-457 c = arm 457 c.args.i c.in-457.is

pub returns-in-458 : goal.returns-in-458
unfolding quotient_pairs pairs_of quotient_words
returns-in-458 c = arm 458 c.args.i c.in-458.is

pub returns-in-459 : goal.returns-in-459
unfolding quotient_pairs pairs_of quotient_words
returns-in-459 c = arm 459 c.args.i c.in-459.is

pub returns-in-460 : goal.returns-in-460
unfolding quotient_pairs pairs_of quotient_words
returns-in-460 c = arm 460 c.args.i c.in-460.is

pub returns-in-461 : goal.returns-in-461
unfolding quotient_pairs pairs_of quotient_words
returns-in-461 c = arm 461 c.args.i c.in-461.is

pub returns-in-462 : goal.returns-in-462
unfolding quotient_pairs pairs_of quotient_words
returns-in-462 c = arm 462 c.args.i c.in-462.is

pub returns-in-463 : goal.returns-in-463
unfolding quotient_pairs pairs_of quotient_words
returns-in-463 c = arm 463 c.args.i c.in-463.is

pub returns-in-464 : goal.returns-in-464
unfolding quotient_pairs pairs_of quotient_words
returns-in-464 c = arm 464 c.args.i c.in-464.is

pub returns-in-465 : goal.returns-in-465
unfolding quotient_pairs pairs_of quotient_words
returns-in-465 c = arm 465 c.args.i c.in-465.is

pub returns-in-466 : goal.returns-in-466
unfolding quotient_pairs pairs_of quotient_words
returns-in-466 c = arm 466 c.args.i c.in-466.is

pub returns-in-467 : goal.returns-in-467
unfolding quotient_pairs pairs_of quotient_words
returns-in-467 c = arm 467 c.args.i c.in-467.is

pub returns-in-468 : goal.returns-in-468
unfolding quotient_pairs pairs_of quotient_words
returns-in-468 c = arm 468 c.args.i c.in-468.is

pub returns-in-469 : goal.returns-in-469
unfolding quotient_pairs pairs_of quotient_words
returns-in-469 c = arm 469 c.args.i c.in-469.is

pub returns-in-470 : goal.returns-in-470
unfolding quotient_pairs pairs_of quotient_words
returns-in-470 c = arm 470 c.args.i c.in-470.is

pub returns-in-471 : goal.returns-in-471
unfolding quotient_pairs pairs_of quotient_words
returns-in-471 c = arm 471 c.args.i c.in-471.is

pub returns-in-472 : goal.returns-in-472
unfolding quotient_pairs pairs_of quotient_words
returns-in-472 c = arm 472 c.args.i c.in-472.is

pub returns-in-473 : goal.returns-in-473
unfolding quotient_pairs pairs_of quotient_words
returns-in-473 c = arm 473 c.args.i c.in-473.is

pub returns-in-474 : goal.returns-in-474
unfolding quotient_pairs pairs_of quotient_words
returns-in-474 c = arm 474 c.args.i c.in-474.is

pub returns-in-475 : goal.returns-in-475
unfolding quotient_pairs pairs_of quotient_words
returns-in-475 c = arm 475 c.args.i c.in-475.is

pub returns-in-476 : goal.returns-in-476
unfolding quotient_pairs pairs_of quotient_words
returns-in-476 c = arm 476 c.args.i c.in-476.is

pub returns-in-477 : goal.returns-in-477
unfolding quotient_pairs pairs_of quotient_words
returns-in-477 c = arm 477 c.args.i c.in-477.is

pub returns-in-478 : goal.returns-in-478
unfolding quotient_pairs pairs_of quotient_words
returns-in-478 c = arm 478 c.args.i c.in-478.is

pub returns-in-479 : goal.returns-in-479
unfolding quotient_pairs pairs_of quotient_words
returns-in-479 c = arm 479 c.args.i c.in-479.is

pub returns-in-480 : goal.returns-in-480
unfolding quotient_pairs pairs_of quotient_words
returns-in-480 c = arm 480 c.args.i c.in-480.is

pub returns-in-481 : goal.returns-in-481
unfolding quotient_pairs pairs_of quotient_words
returns-in-481 c = arm 481 c.args.i c.in-481.is

pub returns-in-482 : goal.returns-in-482
unfolding quotient_pairs pairs_of quotient_words
returns-in-482 c = arm 482 c.args.i c.in-482.is

pub returns-in-483 : goal.returns-in-483
unfolding quotient_pairs pairs_of quotient_words
returns-in-483 c = arm 483 c.args.i c.in-483.is

pub returns-in-484 : goal.returns-in-484
unfolding quotient_pairs pairs_of quotient_words
returns-in-484 c = arm 484 c.args.i c.in-484.is

pub returns-in-485 : goal.returns-in-485
unfolding quotient_pairs pairs_of quotient_words
returns-in-485 c = arm 485 c.args.i c.in-485.is

pub returns-in-486 : goal.returns-in-486
unfolding quotient_pairs pairs_of quotient_words
returns-in-486 c = arm 486 c.args.i c.in-486.is

pub returns-in-487 : goal.returns-in-487
unfolding quotient_pairs pairs_of quotient_words
returns-in-487 c = arm 487 c.args.i c.in-487.is

pub returns-in-488 : goal.returns-in-488
unfolding quotient_pairs pairs_of quotient_words
returns-in-488 c = arm 488 c.args.i c.in-488.is

pub returns-in-489 : goal.returns-in-489
unfolding quotient_pairs pairs_of quotient_words
returns-in-489 c = arm 489 c.args.i c.in-489.is

pub returns-in-490 : goal.returns-in-490
unfolding quotient_pairs pairs_of quotient_words
returns-in-490 c = arm 490 c.args.i c.in-490.is

pub returns-in-491 : goal.returns-in-491
unfolding quotient_pairs pairs_of quotient_words
returns-in-491 c = arm 491 c.args.i c.in-491.is

pub returns-in-492 : goal.returns-in-492
unfolding quotient_pairs pairs_of quotient_words
returns-in-492 c = arm 492 c.args.i c.in-492.is

pub returns-in-493 : goal.returns-in-493
unfolding quotient_pairs pairs_of quotient_words
returns-in-493 c = arm 493 c.args.i c.in-493.is

pub returns-in-494 : goal.returns-in-494
unfolding quotient_pairs pairs_of quotient_words
returns-in-494 c = arm 494 c.args.i c.in-494.is

pub returns-in-495 : goal.returns-in-495
unfolding quotient_pairs pairs_of quotient_words
returns-in-495 c = arm 495 c.args.i c.in-495.is

pub returns-in-496 : goal.returns-in-496
unfolding quotient_pairs pairs_of quotient_words
returns-in-496 c = arm 496 c.args.i c.in-496.is

pub returns-in-497 : goal.returns-in-497
unfolding quotient_pairs pairs_of quotient_words
returns-in-497 c = arm 497 c.args.i c.in-497.is

pub returns-in-498 : goal.returns-in-498
unfolding quotient_pairs pairs_of quotient_words
returns-in-498 c = arm 498 c.args.i c.in-498.is

pub returns-in-499 : goal.returns-in-499
unfolding quotient_pairs pairs_of quotient_words
returns-in-499 c = arm 499 c.args.i c.in-499.is

pub returns-in-500 : goal.returns-in-500
unfolding quotient_pairs pairs_of quotient_words
returns-in-500 c = arm 500 c.args.i c.in-500.is

pub returns-in-501 : goal.returns-in-501
unfolding quotient_pairs pairs_of quotient_words
returns-in-501 c = arm 501 c.args.i c.in-501.is

pub returns-in-502 : goal.returns-in-502
unfolding quotient_pairs pairs_of quotient_words
returns-in-502 c = arm 502 c.args.i c.in-502.is

pub returns-in-503 : goal.returns-in-503
unfolding quotient_pairs pairs_of quotient_words
returns-in-503 c = arm 503 c.args.i c.in-503.is

pub returns-in-504 : goal.returns-in-504
unfolding quotient_pairs pairs_of quotient_words
returns-in-504 c = arm 504 c.args.i c.in-504.is

pub returns-in-505 : goal.returns-in-505
unfolding quotient_pairs pairs_of quotient_words
returns-in-505 c = arm 505 c.args.i c.in-505.is

pub returns-in-506 : goal.returns-in-506
unfolding quotient_pairs pairs_of quotient_words
returns-in-506 c = arm 506 c.args.i c.in-506.is

pub returns-in-507 : goal.returns-in-507
unfolding quotient_pairs pairs_of quotient_words
returns-in-507 c = arm 507 c.args.i c.in-507.is

pub returns-in-508 : goal.returns-in-508
unfolding quotient_pairs pairs_of quotient_words
returns-in-508 c = arm 508 c.args.i c.in-508.is

pub returns-in-509 : goal.returns-in-509
unfolding quotient_pairs pairs_of quotient_words
returns-in-509 c = arm 509 c.args.i c.in-509.is

pub returns-in-510 : goal.returns-in-510
unfolding quotient_pairs pairs_of quotient_words
returns-in-510 c = arm 510 c.args.i c.in-510.is

pub returns-in_default : goal.returns-in_default
unfolding quotient_pairs pairs_of quotient_words
returns-in_default c = arm 511 c.args.i (last 511 c.args.i (search rules) c.requires)
