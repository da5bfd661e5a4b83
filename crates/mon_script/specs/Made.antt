-- Input that is made from a number: a configuration, four files of points and a script.
use Rattle.std.specs.Prelude.{ℕ, zero, suc, ◌+◌, ◌-◌, ◌*◌, ◌/◌, ◌%◌, ◌^◌, List, [], ◌∷◌, ◌++◌, map, codes}
use Rattle.std.specs.Fmt.{decimal}
use Rattle.std.specs.List.{flat_map, range_with_len}
use Rattle.mon_script.specs.Lines.{line_feed}

abbrev pub line_end : List ℕ
line_end = line_feed ∷ []

-- ---- numbers and values

-- the number behind a number: a linear congruential generator of 64 bits, with Knuth's multiplier
abbrev pub next_number : ℕ → ℕ
next_number x = (x * 6364136223846793005 + 1442695040888963407) % 2 ^ 64

-- the number that stands so many steps behind one
abbrev pub number_behind : ℕ → ℕ → ℕ
number_behind zero x = x
number_behind (suc steps) x = next_number (number_behind steps x)

-- the value that a number gives, from 0 to 999
abbrev pub value_of : ℕ → ℕ
value_of x = x / 2 ^ 33 % 1000

-- ---- points

-- how many tasks a file has, each of which is a series, and how many points each has
unfoldable pub tasks : ℕ
tasks = 500

unfoldable pub rounds : ℕ
rounds = 100

-- the number before a round of a file, behind the points of all files and rounds before it: each point is one step
abbrev pub number_before : ℕ → ℕ → ℕ → ℕ
number_before n file round = number_behind (50000 * file + 500 * round) n

-- the front of a point's record: its target and metric, the times of its round, and its value
abbrev pub record_front : ℕ → ℕ → List ℕ
record_front value round =
    codes "Task,/work," ++ (decimal (10 * round) ++ (codes "," ++ (decimal (10 * round + 10)
    ++ (codes "," ++ decimal value))))

-- what stands behind it: the fields of its series
abbrev pub record_fields : ℕ → ℕ → List ℕ
record_fields file task =
    codes ",u" ++ (decimal file ++ (codes ",job" ++ (decimal (task % 10)
    ++ (codes ",c" ++ (decimal (task % 4) ++ (codes "," ++ (decimal task ++ line_end)))))))

-- the record of a task's point in a round of a file
abbrev pub point_record : ℕ → ℕ → ℕ → ℕ → List ℕ
point_record value file round task = record_front value round ++ record_fields file task

-- the same with its value, where x is the number before the round
abbrev pub made_record : ℕ → ℕ → ℕ → ℕ → List ℕ
made_record x file round task = point_record (value_of (number_behind (task + 1) x)) file round task

-- a round has a point of each task
abbrev pub made_round : ℕ → ℕ → ℕ → List ℕ
made_round n file round = flat_map (made_record (number_before n file round) file round) (range_with_len 0 tasks)

-- the text of a file of points
abbrev pub made_points : ℕ → ℕ → List ℕ
made_points n file = flat_map (made_round n file) (range_with_len 0 rounds)

-- ---- the configuration and the script, which are the same for each number

-- the zone of a number, with one location, two leaves, and two ranges that have both leaves
abbrev pub made_zone : List ℕ → List ℕ
made_zone i =
    codes "{\"name\":\"z" ++ i ++ codes "\",\"locations\":[\"c" ++ i ++ codes "\"],\"leaves\":[\"z" ++ i
    ++ codes "a\",\"z" ++ i ++ codes "b\"],\"ranges\":[{\"from\":[],\"leaves\":[\"z" ++ i ++ codes "a\",\"z" ++ i
    ++ codes "b\"]},{\"from\":[\"Task\",\"u2\"],\"leaves\":[\"z" ++ i ++ codes "b\",\"z" ++ i ++ codes "a\"]}]}"

abbrev pub made_config : List ℕ
made_config =
    codes "{\"targets\":[{\"name\":\"Task\",\"fields\":[{\"name\":\"user\",\"type\":\"text\"},"
    ++ codes "{\"name\":\"job\",\"type\":\"text\"},{\"name\":\"cluster\",\"type\":\"text\",\"location\":true},"
    ++ codes "{\"name\":\"task\",\"type\":\"int\"}]}],"
    ++ codes "\"metrics\":[{\"name\":\"/work\",\"kind\":\"delta\",\"type\":\"int\",\"column\":\"work\"}],"
    ++ codes "\"zones\":[" ++ made_zone (codes "0") ++ codes "," ++ made_zone (codes "1")
    ++ codes "," ++ made_zone (codes "2") ++ codes "," ++ made_zone (codes "3") ++ codes "]}" ++ line_end

abbrev pub feed_line : List ℕ → List ℕ
feed_line name = codes "feed " ++ name ++ line_end

abbrev pub query_line : List ℕ → List ℕ
query_line text = codes "query 1000 " ++ text ++ line_end

-- the work of each series over the whole time
abbrev pub all_work : List ℕ
all_work = codes "fetch Task::/work | align delta(1000s)"

-- the feeds in one block, and then eight queries
abbrev pub made_script : List ℕ
made_script =
    codes "together" ++ line_end
    ++ feed_line (codes "p0.csv") ++ feed_line (codes "p1.csv")
    ++ feed_line (codes "p2.csv") ++ feed_line (codes "p3.csv")
    ++ codes "end" ++ line_end
    ++ query_line all_work
    ++ query_line (all_work ++ codes " | group_by [], sum(work)")
    ++ query_line (all_work ++ codes " | group_by [cluster], sum(work)")
    ++ query_line (all_work ++ codes " | group_by [job], mean(work)")
    ++ query_line (all_work ++ codes " | top 10, work")
    ++ query_line (codes "fetch Task::/work | filter user==\"u1\" | align delta(500s)")
    ++ query_line (codes "fetch Task::/work | filter job=~\".*ob7\" | align delta(1000s) | "
    ++ codes "group_by [user, job], max(work)")
    ++ query_line (codes "{" ++ all_work ++ codes ";" ++ all_work ++ codes "}|join|group_by [], count()")

-- ---- the whole input, as it is printed

-- the line in front of a file's text
abbrev pub section_line : List ℕ → List ℕ
section_line name = codes "== " ++ (name ++ (codes " ==" ++ line_end))

-- the name of a file of points
abbrev pub points_name : ℕ → List ℕ
points_name file = codes "p" ++ (decimal file ++ codes ".csv")

abbrev pub points_pieces : ℕ → ℕ → List (List ℕ)
points_pieces n file = section_line (points_name file) ∷ map (made_round n file) (range_with_len 0 rounds)

-- what is printed behind the configuration and so many of the files of points
abbrev pub pieces_behind : ℕ → ℕ → List (List ℕ)
pieces_behind n file =
    flat_map (points_pieces n) (range_with_len file (4 - file)) ++ (section_line (codes "script.txt") ++ made_script)
    ∷ []

-- The input of a number: for each file its name and its text, piece by piece.
abbrev pub made_pieces : ℕ → List (List ℕ)
made_pieces n = (section_line (codes "config.json") ++ made_config) ∷ pieces_behind n 0
