-- One VPE has the asks of all 127 others.
use Rattle.std.specs.Prelude.{◌≡◌, true, Some, None, List, [], ◌∷◌, replicate}
use Rattle.sem_machine.specs.Prelude.{MemKind, Mem, Obtain, Calls, Upcall, Resume, Event, Yes, Called, Asked, Nothing}
use Rattle.sem_machine.specs.Prelude.{Entry, Setup, event}
use Rattle.sem_plays.specs.Words.{key, grant, reply, entry, owners, root, vpe}
use Rattle.sem_plays.specs.Played.{Played, played, enabled_after}

unfoldable pub trace : Setup
trace = record {
  version = 2;
  window = 1;
  kernels = 1;
  owners = owners 1 (replicate 128 (Some 0));
  vpes =
      vpe 0 0 (root 0 (Mem 0 4096 7) ∷ []) []
      ∷ vpe 1 1 [] (Obtain 0 0 0 ∷ [])
      ∷ vpe 2 2 [] (Obtain 0 0 0 ∷ [])
      ∷ vpe 3 3 [] (Obtain 0 0 0 ∷ [])
      ∷ vpe 4 4 [] (Obtain 0 0 0 ∷ [])
      ∷ vpe 5 5 [] (Obtain 0 0 0 ∷ [])
      ∷ vpe 6 6 [] (Obtain 0 0 0 ∷ [])
      ∷ vpe 7 7 [] (Obtain 0 0 0 ∷ [])
      ∷ vpe 8 8 [] (Obtain 0 0 0 ∷ [])
      ∷ vpe 9 9 [] (Obtain 0 0 0 ∷ [])
      ∷ vpe 10 10 [] (Obtain 0 0 0 ∷ [])
      ∷ vpe 11 11 [] (Obtain 0 0 0 ∷ [])
      ∷ vpe 12 12 [] (Obtain 0 0 0 ∷ [])
      ∷ vpe 13 13 [] (Obtain 0 0 0 ∷ [])
      ∷ vpe 14 14 [] (Obtain 0 0 0 ∷ [])
      ∷ vpe 15 15 [] (Obtain 0 0 0 ∷ [])
      ∷ vpe 16 16 [] (Obtain 0 0 0 ∷ [])
      ∷ vpe 17 17 [] (Obtain 0 0 0 ∷ [])
      ∷ vpe 18 18 [] (Obtain 0 0 0 ∷ [])
      ∷ vpe 19 19 [] (Obtain 0 0 0 ∷ [])
      ∷ vpe 20 20 [] (Obtain 0 0 0 ∷ [])
      ∷ vpe 21 21 [] (Obtain 0 0 0 ∷ [])
      ∷ vpe 22 22 [] (Obtain 0 0 0 ∷ [])
      ∷ vpe 23 23 [] (Obtain 0 0 0 ∷ [])
      ∷ vpe 24 24 [] (Obtain 0 0 0 ∷ [])
      ∷ vpe 25 25 [] (Obtain 0 0 0 ∷ [])
      ∷ vpe 26 26 [] (Obtain 0 0 0 ∷ [])
      ∷ vpe 27 27 [] (Obtain 0 0 0 ∷ [])
      ∷ vpe 28 28 [] (Obtain 0 0 0 ∷ [])
      ∷ vpe 29 29 [] (Obtain 0 0 0 ∷ [])
      ∷ vpe 30 30 [] (Obtain 0 0 0 ∷ [])
      ∷ vpe 31 31 [] (Obtain 0 0 0 ∷ [])
      ∷ vpe 32 32 [] (Obtain 0 0 0 ∷ [])
      ∷ vpe 33 33 [] (Obtain 0 0 0 ∷ [])
      ∷ vpe 34 34 [] (Obtain 0 0 0 ∷ [])
      ∷ vpe 35 35 [] (Obtain 0 0 0 ∷ [])
      ∷ vpe 36 36 [] (Obtain 0 0 0 ∷ [])
      ∷ vpe 37 37 [] (Obtain 0 0 0 ∷ [])
      ∷ vpe 38 38 [] (Obtain 0 0 0 ∷ [])
      ∷ vpe 39 39 [] (Obtain 0 0 0 ∷ [])
      ∷ vpe 40 40 [] (Obtain 0 0 0 ∷ [])
      ∷ vpe 41 41 [] (Obtain 0 0 0 ∷ [])
      ∷ vpe 42 42 [] (Obtain 0 0 0 ∷ [])
      ∷ vpe 43 43 [] (Obtain 0 0 0 ∷ [])
      ∷ vpe 44 44 [] (Obtain 0 0 0 ∷ [])
      ∷ vpe 45 45 [] (Obtain 0 0 0 ∷ [])
      ∷ vpe 46 46 [] (Obtain 0 0 0 ∷ [])
      ∷ vpe 47 47 [] (Obtain 0 0 0 ∷ [])
      ∷ vpe 48 48 [] (Obtain 0 0 0 ∷ [])
      ∷ vpe 49 49 [] (Obtain 0 0 0 ∷ [])
      ∷ vpe 50 50 [] (Obtain 0 0 0 ∷ [])
      ∷ vpe 51 51 [] (Obtain 0 0 0 ∷ [])
      ∷ vpe 52 52 [] (Obtain 0 0 0 ∷ [])
      ∷ vpe 53 53 [] (Obtain 0 0 0 ∷ [])
      ∷ vpe 54 54 [] (Obtain 0 0 0 ∷ [])
      ∷ vpe 55 55 [] (Obtain 0 0 0 ∷ [])
      ∷ vpe 56 56 [] (Obtain 0 0 0 ∷ [])
      ∷ vpe 57 57 [] (Obtain 0 0 0 ∷ [])
      ∷ vpe 58 58 [] (Obtain 0 0 0 ∷ [])
      ∷ vpe 59 59 [] (Obtain 0 0 0 ∷ [])
      ∷ vpe 60 60 [] (Obtain 0 0 0 ∷ [])
      ∷ vpe 61 61 [] (Obtain 0 0 0 ∷ [])
      ∷ vpe 62 62 [] (Obtain 0 0 0 ∷ [])
      ∷ vpe 63 63 [] (Obtain 0 0 0 ∷ [])
      ∷ vpe 64 64 [] (Obtain 0 0 0 ∷ [])
      ∷ vpe 65 65 [] (Obtain 0 0 0 ∷ [])
      ∷ vpe 66 66 [] (Obtain 0 0 0 ∷ [])
      ∷ vpe 67 67 [] (Obtain 0 0 0 ∷ [])
      ∷ vpe 68 68 [] (Obtain 0 0 0 ∷ [])
      ∷ vpe 69 69 [] (Obtain 0 0 0 ∷ [])
      ∷ vpe 70 70 [] (Obtain 0 0 0 ∷ [])
      ∷ vpe 71 71 [] (Obtain 0 0 0 ∷ [])
      ∷ vpe 72 72 [] (Obtain 0 0 0 ∷ [])
      ∷ vpe 73 73 [] (Obtain 0 0 0 ∷ [])
      ∷ vpe 74 74 [] (Obtain 0 0 0 ∷ [])
      ∷ vpe 75 75 [] (Obtain 0 0 0 ∷ [])
      ∷ vpe 76 76 [] (Obtain 0 0 0 ∷ [])
      ∷ vpe 77 77 [] (Obtain 0 0 0 ∷ [])
      ∷ vpe 78 78 [] (Obtain 0 0 0 ∷ [])
      ∷ vpe 79 79 [] (Obtain 0 0 0 ∷ [])
      ∷ vpe 80 80 [] (Obtain 0 0 0 ∷ [])
      ∷ vpe 81 81 [] (Obtain 0 0 0 ∷ [])
      ∷ vpe 82 82 [] (Obtain 0 0 0 ∷ [])
      ∷ vpe 83 83 [] (Obtain 0 0 0 ∷ [])
      ∷ vpe 84 84 [] (Obtain 0 0 0 ∷ [])
      ∷ vpe 85 85 [] (Obtain 0 0 0 ∷ [])
      ∷ vpe 86 86 [] (Obtain 0 0 0 ∷ [])
      ∷ vpe 87 87 [] (Obtain 0 0 0 ∷ [])
      ∷ vpe 88 88 [] (Obtain 0 0 0 ∷ [])
      ∷ vpe 89 89 [] (Obtain 0 0 0 ∷ [])
      ∷ vpe 90 90 [] (Obtain 0 0 0 ∷ [])
      ∷ vpe 91 91 [] (Obtain 0 0 0 ∷ [])
      ∷ vpe 92 92 [] (Obtain 0 0 0 ∷ [])
      ∷ vpe 93 93 [] (Obtain 0 0 0 ∷ [])
      ∷ vpe 94 94 [] (Obtain 0 0 0 ∷ [])
      ∷ vpe 95 95 [] (Obtain 0 0 0 ∷ [])
      ∷ vpe 96 96 [] (Obtain 0 0 0 ∷ [])
      ∷ vpe 97 97 [] (Obtain 0 0 0 ∷ [])
      ∷ vpe 98 98 [] (Obtain 0 0 0 ∷ [])
      ∷ vpe 99 99 [] (Obtain 0 0 0 ∷ [])
      ∷ vpe 100 100 [] (Obtain 0 0 0 ∷ [])
      ∷ vpe 101 101 [] (Obtain 0 0 0 ∷ [])
      ∷ vpe 102 102 [] (Obtain 0 0 0 ∷ [])
      ∷ vpe 103 103 [] (Obtain 0 0 0 ∷ [])
      ∷ vpe 104 104 [] (Obtain 0 0 0 ∷ [])
      ∷ vpe 105 105 [] (Obtain 0 0 0 ∷ [])
      ∷ vpe 106 106 [] (Obtain 0 0 0 ∷ [])
      ∷ vpe 107 107 [] (Obtain 0 0 0 ∷ [])
      ∷ vpe 108 108 [] (Obtain 0 0 0 ∷ [])
      ∷ vpe 109 109 [] (Obtain 0 0 0 ∷ [])
      ∷ vpe 110 110 [] (Obtain 0 0 0 ∷ [])
      ∷ vpe 111 111 [] (Obtain 0 0 0 ∷ [])
      ∷ vpe 112 112 [] (Obtain 0 0 0 ∷ [])
      ∷ vpe 113 113 [] (Obtain 0 0 0 ∷ [])
      ∷ vpe 114 114 [] (Obtain 0 0 0 ∷ [])
      ∷ vpe 115 115 [] (Obtain 0 0 0 ∷ [])
      ∷ vpe 116 116 [] (Obtain 0 0 0 ∷ [])
      ∷ vpe 117 117 [] (Obtain 0 0 0 ∷ [])
      ∷ vpe 118 118 [] (Obtain 0 0 0 ∷ [])
      ∷ vpe 119 119 [] (Obtain 0 0 0 ∷ [])
      ∷ vpe 120 120 [] (Obtain 0 0 0 ∷ [])
      ∷ vpe 121 121 [] (Obtain 0 0 0 ∷ [])
      ∷ vpe 122 122 [] (Obtain 0 0 0 ∷ [])
      ∷ vpe 123 123 [] (Obtain 0 0 0 ∷ [])
      ∷ vpe 124 124 [] (Obtain 0 0 0 ∷ [])
      ∷ vpe 125 125 [] (Obtain 0 0 0 ∷ [])
      ∷ vpe 126 126 [] (Obtain 0 0 0 ∷ [])
      ∷ vpe 127 127 [] (Obtain 0 0 0 ∷ [])
      ∷ [];
  services = [];
  offers = [];
  denies = [];
  kills = [];
}

-- the events before the test of what is enabled
unfoldable pub first_events : List Event
first_events =
    event 0 (Calls 1)
    ∷ event 0 (Calls 2)
    ∷ event 0 (Calls 3)
    ∷ event 0 (Calls 4)
    ∷ event 0 (Calls 5)
    ∷ event 0 (Calls 6)
    ∷ event 0 (Calls 7)
    ∷ event 0 (Calls 8)
    ∷ event 0 (Calls 9)
    ∷ event 0 (Calls 10)
    ∷ event 0 (Calls 11)
    ∷ event 0 (Calls 12)
    ∷ event 0 (Calls 13)
    ∷ event 0 (Calls 14)
    ∷ event 0 (Calls 15)
    ∷ event 0 (Calls 16)
    ∷ event 0 (Calls 17)
    ∷ event 0 (Calls 18)
    ∷ event 0 (Calls 19)
    ∷ event 0 (Calls 20)
    ∷ event 0 (Calls 21)
    ∷ event 0 (Calls 22)
    ∷ event 0 (Calls 23)
    ∷ event 0 (Calls 24)
    ∷ event 0 (Calls 25)
    ∷ event 0 (Calls 26)
    ∷ event 0 (Calls 27)
    ∷ event 0 (Calls 28)
    ∷ event 0 (Calls 29)
    ∷ event 0 (Calls 30)
    ∷ event 0 (Calls 31)
    ∷ event 0 (Calls 32)
    ∷ event 0 (Calls 33)
    ∷ event 0 (Calls 34)
    ∷ event 0 (Calls 35)
    ∷ event 0 (Calls 36)
    ∷ event 0 (Calls 37)
    ∷ event 0 (Calls 38)
    ∷ event 0 (Calls 39)
    ∷ event 0 (Calls 40)
    ∷ event 0 (Calls 41)
    ∷ event 0 (Calls 42)
    ∷ event 0 (Calls 43)
    ∷ event 0 (Calls 44)
    ∷ event 0 (Calls 45)
    ∷ event 0 (Calls 46)
    ∷ event 0 (Calls 47)
    ∷ event 0 (Calls 48)
    ∷ event 0 (Calls 49)
    ∷ event 0 (Calls 50)
    ∷ event 0 (Calls 51)
    ∷ event 0 (Calls 52)
    ∷ event 0 (Calls 53)
    ∷ event 0 (Calls 54)
    ∷ event 0 (Calls 55)
    ∷ event 0 (Calls 56)
    ∷ event 0 (Calls 57)
    ∷ event 0 (Calls 58)
    ∷ event 0 (Calls 59)
    ∷ event 0 (Calls 60)
    ∷ event 0 (Calls 61)
    ∷ event 0 (Calls 62)
    ∷ event 0 (Calls 63)
    ∷ event 0 (Calls 64)
    ∷ event 0 (Calls 65)
    ∷ event 0 (Calls 66)
    ∷ event 0 (Calls 67)
    ∷ event 0 (Calls 68)
    ∷ event 0 (Calls 69)
    ∷ event 0 (Calls 70)
    ∷ event 0 (Calls 71)
    ∷ event 0 (Calls 72)
    ∷ event 0 (Calls 73)
    ∷ event 0 (Calls 74)
    ∷ event 0 (Calls 75)
    ∷ event 0 (Calls 76)
    ∷ event 0 (Calls 77)
    ∷ event 0 (Calls 78)
    ∷ event 0 (Calls 79)
    ∷ event 0 (Calls 80)
    ∷ event 0 (Calls 81)
    ∷ event 0 (Calls 82)
    ∷ event 0 (Calls 83)
    ∷ event 0 (Calls 84)
    ∷ event 0 (Calls 85)
    ∷ event 0 (Calls 86)
    ∷ event 0 (Calls 87)
    ∷ event 0 (Calls 88)
    ∷ event 0 (Calls 89)
    ∷ event 0 (Calls 90)
    ∷ event 0 (Calls 91)
    ∷ event 0 (Calls 92)
    ∷ event 0 (Calls 93)
    ∷ event 0 (Calls 94)
    ∷ event 0 (Calls 95)
    ∷ event 0 (Calls 96)
    ∷ event 0 (Calls 97)
    ∷ event 0 (Calls 98)
    ∷ event 0 (Calls 99)
    ∷ event 0 (Calls 100)
    ∷ event 0 (Calls 101)
    ∷ event 0 (Calls 102)
    ∷ event 0 (Calls 103)
    ∷ event 0 (Calls 104)
    ∷ event 0 (Calls 105)
    ∷ event 0 (Calls 106)
    ∷ event 0 (Calls 107)
    ∷ event 0 (Calls 108)
    ∷ event 0 (Calls 109)
    ∷ event 0 (Calls 110)
    ∷ event 0 (Calls 111)
    ∷ event 0 (Calls 112)
    ∷ event 0 (Calls 113)
    ∷ event 0 (Calls 114)
    ∷ event 0 (Calls 115)
    ∷ event 0 (Calls 116)
    ∷ event 0 (Calls 117)
    ∷ event 0 (Calls 118)
    ∷ event 0 (Calls 119)
    ∷ event 0 (Calls 120)
    ∷ event 0 (Calls 121)
    ∷ event 0 (Calls 122)
    ∷ event 0 (Calls 123)
    ∷ event 0 (Calls 124)
    ∷ event 0 (Calls 125)
    ∷ event 0 (Calls 126)
    ∷ event 0 (Calls 127)
    ∷ []

unfoldable pub events : List Event
events =
    event 0 (Calls 1)
    ∷ event 0 (Calls 2)
    ∷ event 0 (Calls 3)
    ∷ event 0 (Calls 4)
    ∷ event 0 (Calls 5)
    ∷ event 0 (Calls 6)
    ∷ event 0 (Calls 7)
    ∷ event 0 (Calls 8)
    ∷ event 0 (Calls 9)
    ∷ event 0 (Calls 10)
    ∷ event 0 (Calls 11)
    ∷ event 0 (Calls 12)
    ∷ event 0 (Calls 13)
    ∷ event 0 (Calls 14)
    ∷ event 0 (Calls 15)
    ∷ event 0 (Calls 16)
    ∷ event 0 (Calls 17)
    ∷ event 0 (Calls 18)
    ∷ event 0 (Calls 19)
    ∷ event 0 (Calls 20)
    ∷ event 0 (Calls 21)
    ∷ event 0 (Calls 22)
    ∷ event 0 (Calls 23)
    ∷ event 0 (Calls 24)
    ∷ event 0 (Calls 25)
    ∷ event 0 (Calls 26)
    ∷ event 0 (Calls 27)
    ∷ event 0 (Calls 28)
    ∷ event 0 (Calls 29)
    ∷ event 0 (Calls 30)
    ∷ event 0 (Calls 31)
    ∷ event 0 (Calls 32)
    ∷ event 0 (Calls 33)
    ∷ event 0 (Calls 34)
    ∷ event 0 (Calls 35)
    ∷ event 0 (Calls 36)
    ∷ event 0 (Calls 37)
    ∷ event 0 (Calls 38)
    ∷ event 0 (Calls 39)
    ∷ event 0 (Calls 40)
    ∷ event 0 (Calls 41)
    ∷ event 0 (Calls 42)
    ∷ event 0 (Calls 43)
    ∷ event 0 (Calls 44)
    ∷ event 0 (Calls 45)
    ∷ event 0 (Calls 46)
    ∷ event 0 (Calls 47)
    ∷ event 0 (Calls 48)
    ∷ event 0 (Calls 49)
    ∷ event 0 (Calls 50)
    ∷ event 0 (Calls 51)
    ∷ event 0 (Calls 52)
    ∷ event 0 (Calls 53)
    ∷ event 0 (Calls 54)
    ∷ event 0 (Calls 55)
    ∷ event 0 (Calls 56)
    ∷ event 0 (Calls 57)
    ∷ event 0 (Calls 58)
    ∷ event 0 (Calls 59)
    ∷ event 0 (Calls 60)
    ∷ event 0 (Calls 61)
    ∷ event 0 (Calls 62)
    ∷ event 0 (Calls 63)
    ∷ event 0 (Calls 64)
    ∷ event 0 (Calls 65)
    ∷ event 0 (Calls 66)
    ∷ event 0 (Calls 67)
    ∷ event 0 (Calls 68)
    ∷ event 0 (Calls 69)
    ∷ event 0 (Calls 70)
    ∷ event 0 (Calls 71)
    ∷ event 0 (Calls 72)
    ∷ event 0 (Calls 73)
    ∷ event 0 (Calls 74)
    ∷ event 0 (Calls 75)
    ∷ event 0 (Calls 76)
    ∷ event 0 (Calls 77)
    ∷ event 0 (Calls 78)
    ∷ event 0 (Calls 79)
    ∷ event 0 (Calls 80)
    ∷ event 0 (Calls 81)
    ∷ event 0 (Calls 82)
    ∷ event 0 (Calls 83)
    ∷ event 0 (Calls 84)
    ∷ event 0 (Calls 85)
    ∷ event 0 (Calls 86)
    ∷ event 0 (Calls 87)
    ∷ event 0 (Calls 88)
    ∷ event 0 (Calls 89)
    ∷ event 0 (Calls 90)
    ∷ event 0 (Calls 91)
    ∷ event 0 (Calls 92)
    ∷ event 0 (Calls 93)
    ∷ event 0 (Calls 94)
    ∷ event 0 (Calls 95)
    ∷ event 0 (Calls 96)
    ∷ event 0 (Calls 97)
    ∷ event 0 (Calls 98)
    ∷ event 0 (Calls 99)
    ∷ event 0 (Calls 100)
    ∷ event 0 (Calls 101)
    ∷ event 0 (Calls 102)
    ∷ event 0 (Calls 103)
    ∷ event 0 (Calls 104)
    ∷ event 0 (Calls 105)
    ∷ event 0 (Calls 106)
    ∷ event 0 (Calls 107)
    ∷ event 0 (Calls 108)
    ∷ event 0 (Calls 109)
    ∷ event 0 (Calls 110)
    ∷ event 0 (Calls 111)
    ∷ event 0 (Calls 112)
    ∷ event 0 (Calls 113)
    ∷ event 0 (Calls 114)
    ∷ event 0 (Calls 115)
    ∷ event 0 (Calls 116)
    ∷ event 0 (Calls 117)
    ∷ event 0 (Calls 118)
    ∷ event 0 (Calls 119)
    ∷ event 0 (Calls 120)
    ∷ event 0 (Calls 121)
    ∷ event 0 (Calls 122)
    ∷ event 0 (Calls 123)
    ∷ event 0 (Calls 124)
    ∷ event 0 (Calls 125)
    ∷ event 0 (Calls 126)
    ∷ event 0 (Calls 127)
    ∷ event 0 (Upcall 0)
    ∷ event 0 (Resume 1)
    ∷ event 0 (Upcall 0)
    ∷ event 0 (Resume 2)
    ∷ event 0 (Upcall 0)
    ∷ event 0 (Resume 3)
    ∷ event 0 (Upcall 0)
    ∷ event 0 (Resume 4)
    ∷ event 0 (Upcall 0)
    ∷ event 0 (Resume 5)
    ∷ event 0 (Upcall 0)
    ∷ event 0 (Resume 6)
    ∷ event 0 (Upcall 0)
    ∷ event 0 (Resume 7)
    ∷ event 0 (Upcall 0)
    ∷ event 0 (Resume 8)
    ∷ event 0 (Upcall 0)
    ∷ event 0 (Resume 9)
    ∷ event 0 (Upcall 0)
    ∷ event 0 (Resume 10)
    ∷ event 0 (Upcall 0)
    ∷ event 0 (Resume 11)
    ∷ event 0 (Upcall 0)
    ∷ event 0 (Resume 12)
    ∷ event 0 (Upcall 0)
    ∷ event 0 (Resume 13)
    ∷ event 0 (Upcall 0)
    ∷ event 0 (Resume 14)
    ∷ event 0 (Upcall 0)
    ∷ event 0 (Resume 15)
    ∷ event 0 (Upcall 0)
    ∷ event 0 (Resume 16)
    ∷ event 0 (Upcall 0)
    ∷ event 0 (Resume 17)
    ∷ event 0 (Upcall 0)
    ∷ event 0 (Resume 18)
    ∷ event 0 (Upcall 0)
    ∷ event 0 (Resume 19)
    ∷ event 0 (Upcall 0)
    ∷ event 0 (Resume 20)
    ∷ event 0 (Upcall 0)
    ∷ event 0 (Resume 21)
    ∷ event 0 (Upcall 0)
    ∷ event 0 (Resume 22)
    ∷ event 0 (Upcall 0)
    ∷ event 0 (Resume 23)
    ∷ event 0 (Upcall 0)
    ∷ event 0 (Resume 24)
    ∷ event 0 (Upcall 0)
    ∷ event 0 (Resume 25)
    ∷ event 0 (Upcall 0)
    ∷ event 0 (Resume 26)
    ∷ event 0 (Upcall 0)
    ∷ event 0 (Resume 27)
    ∷ event 0 (Upcall 0)
    ∷ event 0 (Resume 28)
    ∷ event 0 (Upcall 0)
    ∷ event 0 (Resume 29)
    ∷ event 0 (Upcall 0)
    ∷ event 0 (Resume 30)
    ∷ event 0 (Upcall 0)
    ∷ event 0 (Resume 31)
    ∷ event 0 (Upcall 0)
    ∷ event 0 (Resume 32)
    ∷ event 0 (Upcall 0)
    ∷ event 0 (Resume 33)
    ∷ event 0 (Upcall 0)
    ∷ event 0 (Resume 34)
    ∷ event 0 (Upcall 0)
    ∷ event 0 (Resume 35)
    ∷ event 0 (Upcall 0)
    ∷ event 0 (Resume 36)
    ∷ event 0 (Upcall 0)
    ∷ event 0 (Resume 37)
    ∷ event 0 (Upcall 0)
    ∷ event 0 (Resume 38)
    ∷ event 0 (Upcall 0)
    ∷ event 0 (Resume 39)
    ∷ event 0 (Upcall 0)
    ∷ event 0 (Resume 40)
    ∷ event 0 (Upcall 0)
    ∷ event 0 (Resume 41)
    ∷ event 0 (Upcall 0)
    ∷ event 0 (Resume 42)
    ∷ event 0 (Upcall 0)
    ∷ event 0 (Resume 43)
    ∷ event 0 (Upcall 0)
    ∷ event 0 (Resume 44)
    ∷ event 0 (Upcall 0)
    ∷ event 0 (Resume 45)
    ∷ event 0 (Upcall 0)
    ∷ event 0 (Resume 46)
    ∷ event 0 (Upcall 0)
    ∷ event 0 (Resume 47)
    ∷ event 0 (Upcall 0)
    ∷ event 0 (Resume 48)
    ∷ event 0 (Upcall 0)
    ∷ event 0 (Resume 49)
    ∷ event 0 (Upcall 0)
    ∷ event 0 (Resume 50)
    ∷ event 0 (Upcall 0)
    ∷ event 0 (Resume 51)
    ∷ event 0 (Upcall 0)
    ∷ event 0 (Resume 52)
    ∷ event 0 (Upcall 0)
    ∷ event 0 (Resume 53)
    ∷ event 0 (Upcall 0)
    ∷ event 0 (Resume 54)
    ∷ event 0 (Upcall 0)
    ∷ event 0 (Resume 55)
    ∷ event 0 (Upcall 0)
    ∷ event 0 (Resume 56)
    ∷ event 0 (Upcall 0)
    ∷ event 0 (Resume 57)
    ∷ event 0 (Upcall 0)
    ∷ event 0 (Resume 58)
    ∷ event 0 (Upcall 0)
    ∷ event 0 (Resume 59)
    ∷ event 0 (Upcall 0)
    ∷ event 0 (Resume 60)
    ∷ event 0 (Upcall 0)
    ∷ event 0 (Resume 61)
    ∷ event 0 (Upcall 0)
    ∷ event 0 (Resume 62)
    ∷ event 0 (Upcall 0)
    ∷ event 0 (Resume 63)
    ∷ event 0 (Upcall 0)
    ∷ event 0 (Resume 64)
    ∷ event 0 (Upcall 0)
    ∷ event 0 (Resume 65)
    ∷ event 0 (Upcall 0)
    ∷ event 0 (Resume 66)
    ∷ event 0 (Upcall 0)
    ∷ event 0 (Resume 67)
    ∷ event 0 (Upcall 0)
    ∷ event 0 (Resume 68)
    ∷ event 0 (Upcall 0)
    ∷ event 0 (Resume 69)
    ∷ event 0 (Upcall 0)
    ∷ event 0 (Resume 70)
    ∷ event 0 (Upcall 0)
    ∷ event 0 (Resume 71)
    ∷ event 0 (Upcall 0)
    ∷ event 0 (Resume 72)
    ∷ event 0 (Upcall 0)
    ∷ event 0 (Resume 73)
    ∷ event 0 (Upcall 0)
    ∷ event 0 (Resume 74)
    ∷ event 0 (Upcall 0)
    ∷ event 0 (Resume 75)
    ∷ event 0 (Upcall 0)
    ∷ event 0 (Resume 76)
    ∷ event 0 (Upcall 0)
    ∷ event 0 (Resume 77)
    ∷ event 0 (Upcall 0)
    ∷ event 0 (Resume 78)
    ∷ event 0 (Upcall 0)
    ∷ event 0 (Resume 79)
    ∷ event 0 (Upcall 0)
    ∷ event 0 (Resume 80)
    ∷ event 0 (Upcall 0)
    ∷ event 0 (Resume 81)
    ∷ event 0 (Upcall 0)
    ∷ event 0 (Resume 82)
    ∷ event 0 (Upcall 0)
    ∷ event 0 (Resume 83)
    ∷ event 0 (Upcall 0)
    ∷ event 0 (Resume 84)
    ∷ event 0 (Upcall 0)
    ∷ event 0 (Resume 85)
    ∷ event 0 (Upcall 0)
    ∷ event 0 (Resume 86)
    ∷ event 0 (Upcall 0)
    ∷ event 0 (Resume 87)
    ∷ event 0 (Upcall 0)
    ∷ event 0 (Resume 88)
    ∷ event 0 (Upcall 0)
    ∷ event 0 (Resume 89)
    ∷ event 0 (Upcall 0)
    ∷ event 0 (Resume 90)
    ∷ event 0 (Upcall 0)
    ∷ event 0 (Resume 91)
    ∷ event 0 (Upcall 0)
    ∷ event 0 (Resume 92)
    ∷ event 0 (Upcall 0)
    ∷ event 0 (Resume 93)
    ∷ event 0 (Upcall 0)
    ∷ event 0 (Resume 94)
    ∷ event 0 (Upcall 0)
    ∷ event 0 (Resume 95)
    ∷ event 0 (Upcall 0)
    ∷ event 0 (Resume 96)
    ∷ event 0 (Upcall 0)
    ∷ event 0 (Resume 97)
    ∷ event 0 (Upcall 0)
    ∷ event 0 (Resume 98)
    ∷ event 0 (Upcall 0)
    ∷ event 0 (Resume 99)
    ∷ event 0 (Upcall 0)
    ∷ event 0 (Resume 100)
    ∷ event 0 (Upcall 0)
    ∷ event 0 (Resume 101)
    ∷ event 0 (Upcall 0)
    ∷ event 0 (Resume 102)
    ∷ event 0 (Upcall 0)
    ∷ event 0 (Resume 103)
    ∷ event 0 (Upcall 0)
    ∷ event 0 (Resume 104)
    ∷ event 0 (Upcall 0)
    ∷ event 0 (Resume 105)
    ∷ event 0 (Upcall 0)
    ∷ event 0 (Resume 106)
    ∷ event 0 (Upcall 0)
    ∷ event 0 (Resume 107)
    ∷ event 0 (Upcall 0)
    ∷ event 0 (Resume 108)
    ∷ event 0 (Upcall 0)
    ∷ event 0 (Resume 109)
    ∷ event 0 (Upcall 0)
    ∷ event 0 (Resume 110)
    ∷ event 0 (Upcall 0)
    ∷ event 0 (Resume 111)
    ∷ event 0 (Upcall 0)
    ∷ event 0 (Resume 112)
    ∷ event 0 (Upcall 0)
    ∷ event 0 (Resume 113)
    ∷ event 0 (Upcall 0)
    ∷ event 0 (Resume 114)
    ∷ event 0 (Upcall 0)
    ∷ event 0 (Resume 115)
    ∷ event 0 (Upcall 0)
    ∷ event 0 (Resume 116)
    ∷ event 0 (Upcall 0)
    ∷ event 0 (Resume 117)
    ∷ event 0 (Upcall 0)
    ∷ event 0 (Resume 118)
    ∷ event 0 (Upcall 0)
    ∷ event 0 (Resume 119)
    ∷ event 0 (Upcall 0)
    ∷ event 0 (Resume 120)
    ∷ event 0 (Upcall 0)
    ∷ event 0 (Resume 121)
    ∷ event 0 (Upcall 0)
    ∷ event 0 (Resume 122)
    ∷ event 0 (Upcall 0)
    ∷ event 0 (Resume 123)
    ∷ event 0 (Upcall 0)
    ∷ event 0 (Resume 124)
    ∷ event 0 (Upcall 0)
    ∷ event 0 (Resume 125)
    ∷ event 0 (Upcall 0)
    ∷ event 0 (Resume 126)
    ∷ event 0 (Upcall 0)
    ∷ event 0 (Resume 127)
    ∷ []

unfoldable pub journal : List Entry
journal =
    entry 0 (Calls 1) (Called 0 (Obtain 0 0 0)) None None None
    ∷ entry 0 (Calls 2) (Called 0 (Obtain 0 0 0)) None None None
    ∷ entry 0 (Calls 3) (Called 0 (Obtain 0 0 0)) None None None
    ∷ entry 0 (Calls 4) (Called 0 (Obtain 0 0 0)) None None None
    ∷ entry 0 (Calls 5) (Called 0 (Obtain 0 0 0)) None None None
    ∷ entry 0 (Calls 6) (Called 0 (Obtain 0 0 0)) None None None
    ∷ entry 0 (Calls 7) (Called 0 (Obtain 0 0 0)) None None None
    ∷ entry 0 (Calls 8) (Called 0 (Obtain 0 0 0)) None None None
    ∷ entry 0 (Calls 9) (Called 0 (Obtain 0 0 0)) None None None
    ∷ entry 0 (Calls 10) (Called 0 (Obtain 0 0 0)) None None None
    ∷ entry 0 (Calls 11) (Called 0 (Obtain 0 0 0)) None None None
    ∷ entry 0 (Calls 12) (Called 0 (Obtain 0 0 0)) None None None
    ∷ entry 0 (Calls 13) (Called 0 (Obtain 0 0 0)) None None None
    ∷ entry 0 (Calls 14) (Called 0 (Obtain 0 0 0)) None None None
    ∷ entry 0 (Calls 15) (Called 0 (Obtain 0 0 0)) None None None
    ∷ entry 0 (Calls 16) (Called 0 (Obtain 0 0 0)) None None None
    ∷ entry 0 (Calls 17) (Called 0 (Obtain 0 0 0)) None None None
    ∷ entry 0 (Calls 18) (Called 0 (Obtain 0 0 0)) None None None
    ∷ entry 0 (Calls 19) (Called 0 (Obtain 0 0 0)) None None None
    ∷ entry 0 (Calls 20) (Called 0 (Obtain 0 0 0)) None None None
    ∷ entry 0 (Calls 21) (Called 0 (Obtain 0 0 0)) None None None
    ∷ entry 0 (Calls 22) (Called 0 (Obtain 0 0 0)) None None None
    ∷ entry 0 (Calls 23) (Called 0 (Obtain 0 0 0)) None None None
    ∷ entry 0 (Calls 24) (Called 0 (Obtain 0 0 0)) None None None
    ∷ entry 0 (Calls 25) (Called 0 (Obtain 0 0 0)) None None None
    ∷ entry 0 (Calls 26) (Called 0 (Obtain 0 0 0)) None None None
    ∷ entry 0 (Calls 27) (Called 0 (Obtain 0 0 0)) None None None
    ∷ entry 0 (Calls 28) (Called 0 (Obtain 0 0 0)) None None None
    ∷ entry 0 (Calls 29) (Called 0 (Obtain 0 0 0)) None None None
    ∷ entry 0 (Calls 30) (Called 0 (Obtain 0 0 0)) None None None
    ∷ entry 0 (Calls 31) (Called 0 (Obtain 0 0 0)) None None None
    ∷ entry 0 (Calls 32) (Called 0 (Obtain 0 0 0)) None None None
    ∷ entry 0 (Calls 33) (Called 0 (Obtain 0 0 0)) None None None
    ∷ entry 0 (Calls 34) (Called 0 (Obtain 0 0 0)) None None None
    ∷ entry 0 (Calls 35) (Called 0 (Obtain 0 0 0)) None None None
    ∷ entry 0 (Calls 36) (Called 0 (Obtain 0 0 0)) None None None
    ∷ entry 0 (Calls 37) (Called 0 (Obtain 0 0 0)) None None None
    ∷ entry 0 (Calls 38) (Called 0 (Obtain 0 0 0)) None None None
    ∷ entry 0 (Calls 39) (Called 0 (Obtain 0 0 0)) None None None
    ∷ entry 0 (Calls 40) (Called 0 (Obtain 0 0 0)) None None None
    ∷ entry 0 (Calls 41) (Called 0 (Obtain 0 0 0)) None None None
    ∷ entry 0 (Calls 42) (Called 0 (Obtain 0 0 0)) None None None
    ∷ entry 0 (Calls 43) (Called 0 (Obtain 0 0 0)) None None None
    ∷ entry 0 (Calls 44) (Called 0 (Obtain 0 0 0)) None None None
    ∷ entry 0 (Calls 45) (Called 0 (Obtain 0 0 0)) None None None
    ∷ entry 0 (Calls 46) (Called 0 (Obtain 0 0 0)) None None None
    ∷ entry 0 (Calls 47) (Called 0 (Obtain 0 0 0)) None None None
    ∷ entry 0 (Calls 48) (Called 0 (Obtain 0 0 0)) None None None
    ∷ entry 0 (Calls 49) (Called 0 (Obtain 0 0 0)) None None None
    ∷ entry 0 (Calls 50) (Called 0 (Obtain 0 0 0)) None None None
    ∷ entry 0 (Calls 51) (Called 0 (Obtain 0 0 0)) None None None
    ∷ entry 0 (Calls 52) (Called 0 (Obtain 0 0 0)) None None None
    ∷ entry 0 (Calls 53) (Called 0 (Obtain 0 0 0)) None None None
    ∷ entry 0 (Calls 54) (Called 0 (Obtain 0 0 0)) None None None
    ∷ entry 0 (Calls 55) (Called 0 (Obtain 0 0 0)) None None None
    ∷ entry 0 (Calls 56) (Called 0 (Obtain 0 0 0)) None None None
    ∷ entry 0 (Calls 57) (Called 0 (Obtain 0 0 0)) None None None
    ∷ entry 0 (Calls 58) (Called 0 (Obtain 0 0 0)) None None None
    ∷ entry 0 (Calls 59) (Called 0 (Obtain 0 0 0)) None None None
    ∷ entry 0 (Calls 60) (Called 0 (Obtain 0 0 0)) None None None
    ∷ entry 0 (Calls 61) (Called 0 (Obtain 0 0 0)) None None None
    ∷ entry 0 (Calls 62) (Called 0 (Obtain 0 0 0)) None None None
    ∷ entry 0 (Calls 63) (Called 0 (Obtain 0 0 0)) None None None
    ∷ entry 0 (Calls 64) (Called 0 (Obtain 0 0 0)) None None None
    ∷ entry 0 (Calls 65) (Called 0 (Obtain 0 0 0)) None None None
    ∷ entry 0 (Calls 66) (Called 0 (Obtain 0 0 0)) None None None
    ∷ entry 0 (Calls 67) (Called 0 (Obtain 0 0 0)) None None None
    ∷ entry 0 (Calls 68) (Called 0 (Obtain 0 0 0)) None None None
    ∷ entry 0 (Calls 69) (Called 0 (Obtain 0 0 0)) None None None
    ∷ entry 0 (Calls 70) (Called 0 (Obtain 0 0 0)) None None None
    ∷ entry 0 (Calls 71) (Called 0 (Obtain 0 0 0)) None None None
    ∷ entry 0 (Calls 72) (Called 0 (Obtain 0 0 0)) None None None
    ∷ entry 0 (Calls 73) (Called 0 (Obtain 0 0 0)) None None None
    ∷ entry 0 (Calls 74) (Called 0 (Obtain 0 0 0)) None None None
    ∷ entry 0 (Calls 75) (Called 0 (Obtain 0 0 0)) None None None
    ∷ entry 0 (Calls 76) (Called 0 (Obtain 0 0 0)) None None None
    ∷ entry 0 (Calls 77) (Called 0 (Obtain 0 0 0)) None None None
    ∷ entry 0 (Calls 78) (Called 0 (Obtain 0 0 0)) None None None
    ∷ entry 0 (Calls 79) (Called 0 (Obtain 0 0 0)) None None None
    ∷ entry 0 (Calls 80) (Called 0 (Obtain 0 0 0)) None None None
    ∷ entry 0 (Calls 81) (Called 0 (Obtain 0 0 0)) None None None
    ∷ entry 0 (Calls 82) (Called 0 (Obtain 0 0 0)) None None None
    ∷ entry 0 (Calls 83) (Called 0 (Obtain 0 0 0)) None None None
    ∷ entry 0 (Calls 84) (Called 0 (Obtain 0 0 0)) None None None
    ∷ entry 0 (Calls 85) (Called 0 (Obtain 0 0 0)) None None None
    ∷ entry 0 (Calls 86) (Called 0 (Obtain 0 0 0)) None None None
    ∷ entry 0 (Calls 87) (Called 0 (Obtain 0 0 0)) None None None
    ∷ entry 0 (Calls 88) (Called 0 (Obtain 0 0 0)) None None None
    ∷ entry 0 (Calls 89) (Called 0 (Obtain 0 0 0)) None None None
    ∷ entry 0 (Calls 90) (Called 0 (Obtain 0 0 0)) None None None
    ∷ entry 0 (Calls 91) (Called 0 (Obtain 0 0 0)) None None None
    ∷ entry 0 (Calls 92) (Called 0 (Obtain 0 0 0)) None None None
    ∷ entry 0 (Calls 93) (Called 0 (Obtain 0 0 0)) None None None
    ∷ entry 0 (Calls 94) (Called 0 (Obtain 0 0 0)) None None None
    ∷ entry 0 (Calls 95) (Called 0 (Obtain 0 0 0)) None None None
    ∷ entry 0 (Calls 96) (Called 0 (Obtain 0 0 0)) None None None
    ∷ entry 0 (Calls 97) (Called 0 (Obtain 0 0 0)) None None None
    ∷ entry 0 (Calls 98) (Called 0 (Obtain 0 0 0)) None None None
    ∷ entry 0 (Calls 99) (Called 0 (Obtain 0 0 0)) None None None
    ∷ entry 0 (Calls 100) (Called 0 (Obtain 0 0 0)) None None None
    ∷ entry 0 (Calls 101) (Called 0 (Obtain 0 0 0)) None None None
    ∷ entry 0 (Calls 102) (Called 0 (Obtain 0 0 0)) None None None
    ∷ entry 0 (Calls 103) (Called 0 (Obtain 0 0 0)) None None None
    ∷ entry 0 (Calls 104) (Called 0 (Obtain 0 0 0)) None None None
    ∷ entry 0 (Calls 105) (Called 0 (Obtain 0 0 0)) None None None
    ∷ entry 0 (Calls 106) (Called 0 (Obtain 0 0 0)) None None None
    ∷ entry 0 (Calls 107) (Called 0 (Obtain 0 0 0)) None None None
    ∷ entry 0 (Calls 108) (Called 0 (Obtain 0 0 0)) None None None
    ∷ entry 0 (Calls 109) (Called 0 (Obtain 0 0 0)) None None None
    ∷ entry 0 (Calls 110) (Called 0 (Obtain 0 0 0)) None None None
    ∷ entry 0 (Calls 111) (Called 0 (Obtain 0 0 0)) None None None
    ∷ entry 0 (Calls 112) (Called 0 (Obtain 0 0 0)) None None None
    ∷ entry 0 (Calls 113) (Called 0 (Obtain 0 0 0)) None None None
    ∷ entry 0 (Calls 114) (Called 0 (Obtain 0 0 0)) None None None
    ∷ entry 0 (Calls 115) (Called 0 (Obtain 0 0 0)) None None None
    ∷ entry 0 (Calls 116) (Called 0 (Obtain 0 0 0)) None None None
    ∷ entry 0 (Calls 117) (Called 0 (Obtain 0 0 0)) None None None
    ∷ entry 0 (Calls 118) (Called 0 (Obtain 0 0 0)) None None None
    ∷ entry 0 (Calls 119) (Called 0 (Obtain 0 0 0)) None None None
    ∷ entry 0 (Calls 120) (Called 0 (Obtain 0 0 0)) None None None
    ∷ entry 0 (Calls 121) (Called 0 (Obtain 0 0 0)) None None None
    ∷ entry 0 (Calls 122) (Called 0 (Obtain 0 0 0)) None None None
    ∷ entry 0 (Calls 123) (Called 0 (Obtain 0 0 0)) None None None
    ∷ entry 0 (Calls 124) (Called 0 (Obtain 0 0 0)) None None None
    ∷ entry 0 (Calls 125) (Called 0 (Obtain 0 0 0)) None None None
    ∷ entry 0 (Calls 126) (Called 0 (Obtain 0 0 0)) None None None
    ∷ entry 0 (Calls 127) (Called 0 (Obtain 0 0 0)) None None None
    ∷ entry 0 (Upcall 0) (Asked 1 Yes) (grant (key 0 0 MemKind 0) (key 1 1 MemKind 0)) None None
    ∷ entry 0 (Resume 1) Nothing None None (reply 1 0)
    ∷ entry 0 (Upcall 0) (Asked 2 Yes) (grant (key 0 0 MemKind 0) (key 2 2 MemKind 0)) None None
    ∷ entry 0 (Resume 2) Nothing None None (reply 2 0)
    ∷ entry 0 (Upcall 0) (Asked 3 Yes) (grant (key 0 0 MemKind 0) (key 3 3 MemKind 0)) None None
    ∷ entry 0 (Resume 3) Nothing None None (reply 3 0)
    ∷ entry 0 (Upcall 0) (Asked 4 Yes) (grant (key 0 0 MemKind 0) (key 4 4 MemKind 0)) None None
    ∷ entry 0 (Resume 4) Nothing None None (reply 4 0)
    ∷ entry 0 (Upcall 0) (Asked 5 Yes) (grant (key 0 0 MemKind 0) (key 5 5 MemKind 0)) None None
    ∷ entry 0 (Resume 5) Nothing None None (reply 5 0)
    ∷ entry 0 (Upcall 0) (Asked 6 Yes) (grant (key 0 0 MemKind 0) (key 6 6 MemKind 0)) None None
    ∷ entry 0 (Resume 6) Nothing None None (reply 6 0)
    ∷ entry 0 (Upcall 0) (Asked 7 Yes) (grant (key 0 0 MemKind 0) (key 7 7 MemKind 0)) None None
    ∷ entry 0 (Resume 7) Nothing None None (reply 7 0)
    ∷ entry 0 (Upcall 0) (Asked 8 Yes) (grant (key 0 0 MemKind 0) (key 8 8 MemKind 0)) None None
    ∷ entry 0 (Resume 8) Nothing None None (reply 8 0)
    ∷ entry 0 (Upcall 0) (Asked 9 Yes) (grant (key 0 0 MemKind 0) (key 9 9 MemKind 0)) None None
    ∷ entry 0 (Resume 9) Nothing None None (reply 9 0)
    ∷ entry 0 (Upcall 0) (Asked 10 Yes) (grant (key 0 0 MemKind 0) (key 10 10 MemKind 0)) None None
    ∷ entry 0 (Resume 10) Nothing None None (reply 10 0)
    ∷ entry 0 (Upcall 0) (Asked 11 Yes) (grant (key 0 0 MemKind 0) (key 11 11 MemKind 0)) None None
    ∷ entry 0 (Resume 11) Nothing None None (reply 11 0)
    ∷ entry 0 (Upcall 0) (Asked 12 Yes) (grant (key 0 0 MemKind 0) (key 12 12 MemKind 0)) None None
    ∷ entry 0 (Resume 12) Nothing None None (reply 12 0)
    ∷ entry 0 (Upcall 0) (Asked 13 Yes) (grant (key 0 0 MemKind 0) (key 13 13 MemKind 0)) None None
    ∷ entry 0 (Resume 13) Nothing None None (reply 13 0)
    ∷ entry 0 (Upcall 0) (Asked 14 Yes) (grant (key 0 0 MemKind 0) (key 14 14 MemKind 0)) None None
    ∷ entry 0 (Resume 14) Nothing None None (reply 14 0)
    ∷ entry 0 (Upcall 0) (Asked 15 Yes) (grant (key 0 0 MemKind 0) (key 15 15 MemKind 0)) None None
    ∷ entry 0 (Resume 15) Nothing None None (reply 15 0)
    ∷ entry 0 (Upcall 0) (Asked 16 Yes) (grant (key 0 0 MemKind 0) (key 16 16 MemKind 0)) None None
    ∷ entry 0 (Resume 16) Nothing None None (reply 16 0)
    ∷ entry 0 (Upcall 0) (Asked 17 Yes) (grant (key 0 0 MemKind 0) (key 17 17 MemKind 0)) None None
    ∷ entry 0 (Resume 17) Nothing None None (reply 17 0)
    ∷ entry 0 (Upcall 0) (Asked 18 Yes) (grant (key 0 0 MemKind 0) (key 18 18 MemKind 0)) None None
    ∷ entry 0 (Resume 18) Nothing None None (reply 18 0)
    ∷ entry 0 (Upcall 0) (Asked 19 Yes) (grant (key 0 0 MemKind 0) (key 19 19 MemKind 0)) None None
    ∷ entry 0 (Resume 19) Nothing None None (reply 19 0)
    ∷ entry 0 (Upcall 0) (Asked 20 Yes) (grant (key 0 0 MemKind 0) (key 20 20 MemKind 0)) None None
    ∷ entry 0 (Resume 20) Nothing None None (reply 20 0)
    ∷ entry 0 (Upcall 0) (Asked 21 Yes) (grant (key 0 0 MemKind 0) (key 21 21 MemKind 0)) None None
    ∷ entry 0 (Resume 21) Nothing None None (reply 21 0)
    ∷ entry 0 (Upcall 0) (Asked 22 Yes) (grant (key 0 0 MemKind 0) (key 22 22 MemKind 0)) None None
    ∷ entry 0 (Resume 22) Nothing None None (reply 22 0)
    ∷ entry 0 (Upcall 0) (Asked 23 Yes) (grant (key 0 0 MemKind 0) (key 23 23 MemKind 0)) None None
    ∷ entry 0 (Resume 23) Nothing None None (reply 23 0)
    ∷ entry 0 (Upcall 0) (Asked 24 Yes) (grant (key 0 0 MemKind 0) (key 24 24 MemKind 0)) None None
    ∷ entry 0 (Resume 24) Nothing None None (reply 24 0)
    ∷ entry 0 (Upcall 0) (Asked 25 Yes) (grant (key 0 0 MemKind 0) (key 25 25 MemKind 0)) None None
    ∷ entry 0 (Resume 25) Nothing None None (reply 25 0)
    ∷ entry 0 (Upcall 0) (Asked 26 Yes) (grant (key 0 0 MemKind 0) (key 26 26 MemKind 0)) None None
    ∷ entry 0 (Resume 26) Nothing None None (reply 26 0)
    ∷ entry 0 (Upcall 0) (Asked 27 Yes) (grant (key 0 0 MemKind 0) (key 27 27 MemKind 0)) None None
    ∷ entry 0 (Resume 27) Nothing None None (reply 27 0)
    ∷ entry 0 (Upcall 0) (Asked 28 Yes) (grant (key 0 0 MemKind 0) (key 28 28 MemKind 0)) None None
    ∷ entry 0 (Resume 28) Nothing None None (reply 28 0)
    ∷ entry 0 (Upcall 0) (Asked 29 Yes) (grant (key 0 0 MemKind 0) (key 29 29 MemKind 0)) None None
    ∷ entry 0 (Resume 29) Nothing None None (reply 29 0)
    ∷ entry 0 (Upcall 0) (Asked 30 Yes) (grant (key 0 0 MemKind 0) (key 30 30 MemKind 0)) None None
    ∷ entry 0 (Resume 30) Nothing None None (reply 30 0)
    ∷ entry 0 (Upcall 0) (Asked 31 Yes) (grant (key 0 0 MemKind 0) (key 31 31 MemKind 0)) None None
    ∷ entry 0 (Resume 31) Nothing None None (reply 31 0)
    ∷ entry 0 (Upcall 0) (Asked 32 Yes) (grant (key 0 0 MemKind 0) (key 32 32 MemKind 0)) None None
    ∷ entry 0 (Resume 32) Nothing None None (reply 32 0)
    ∷ entry 0 (Upcall 0) (Asked 33 Yes) (grant (key 0 0 MemKind 0) (key 33 33 MemKind 0)) None None
    ∷ entry 0 (Resume 33) Nothing None None (reply 33 0)
    ∷ entry 0 (Upcall 0) (Asked 34 Yes) (grant (key 0 0 MemKind 0) (key 34 34 MemKind 0)) None None
    ∷ entry 0 (Resume 34) Nothing None None (reply 34 0)
    ∷ entry 0 (Upcall 0) (Asked 35 Yes) (grant (key 0 0 MemKind 0) (key 35 35 MemKind 0)) None None
    ∷ entry 0 (Resume 35) Nothing None None (reply 35 0)
    ∷ entry 0 (Upcall 0) (Asked 36 Yes) (grant (key 0 0 MemKind 0) (key 36 36 MemKind 0)) None None
    ∷ entry 0 (Resume 36) Nothing None None (reply 36 0)
    ∷ entry 0 (Upcall 0) (Asked 37 Yes) (grant (key 0 0 MemKind 0) (key 37 37 MemKind 0)) None None
    ∷ entry 0 (Resume 37) Nothing None None (reply 37 0)
    ∷ entry 0 (Upcall 0) (Asked 38 Yes) (grant (key 0 0 MemKind 0) (key 38 38 MemKind 0)) None None
    ∷ entry 0 (Resume 38) Nothing None None (reply 38 0)
    ∷ entry 0 (Upcall 0) (Asked 39 Yes) (grant (key 0 0 MemKind 0) (key 39 39 MemKind 0)) None None
    ∷ entry 0 (Resume 39) Nothing None None (reply 39 0)
    ∷ entry 0 (Upcall 0) (Asked 40 Yes) (grant (key 0 0 MemKind 0) (key 40 40 MemKind 0)) None None
    ∷ entry 0 (Resume 40) Nothing None None (reply 40 0)
    ∷ entry 0 (Upcall 0) (Asked 41 Yes) (grant (key 0 0 MemKind 0) (key 41 41 MemKind 0)) None None
    ∷ entry 0 (Resume 41) Nothing None None (reply 41 0)
    ∷ entry 0 (Upcall 0) (Asked 42 Yes) (grant (key 0 0 MemKind 0) (key 42 42 MemKind 0)) None None
    ∷ entry 0 (Resume 42) Nothing None None (reply 42 0)
    ∷ entry 0 (Upcall 0) (Asked 43 Yes) (grant (key 0 0 MemKind 0) (key 43 43 MemKind 0)) None None
    ∷ entry 0 (Resume 43) Nothing None None (reply 43 0)
    ∷ entry 0 (Upcall 0) (Asked 44 Yes) (grant (key 0 0 MemKind 0) (key 44 44 MemKind 0)) None None
    ∷ entry 0 (Resume 44) Nothing None None (reply 44 0)
    ∷ entry 0 (Upcall 0) (Asked 45 Yes) (grant (key 0 0 MemKind 0) (key 45 45 MemKind 0)) None None
    ∷ entry 0 (Resume 45) Nothing None None (reply 45 0)
    ∷ entry 0 (Upcall 0) (Asked 46 Yes) (grant (key 0 0 MemKind 0) (key 46 46 MemKind 0)) None None
    ∷ entry 0 (Resume 46) Nothing None None (reply 46 0)
    ∷ entry 0 (Upcall 0) (Asked 47 Yes) (grant (key 0 0 MemKind 0) (key 47 47 MemKind 0)) None None
    ∷ entry 0 (Resume 47) Nothing None None (reply 47 0)
    ∷ entry 0 (Upcall 0) (Asked 48 Yes) (grant (key 0 0 MemKind 0) (key 48 48 MemKind 0)) None None
    ∷ entry 0 (Resume 48) Nothing None None (reply 48 0)
    ∷ entry 0 (Upcall 0) (Asked 49 Yes) (grant (key 0 0 MemKind 0) (key 49 49 MemKind 0)) None None
    ∷ entry 0 (Resume 49) Nothing None None (reply 49 0)
    ∷ entry 0 (Upcall 0) (Asked 50 Yes) (grant (key 0 0 MemKind 0) (key 50 50 MemKind 0)) None None
    ∷ entry 0 (Resume 50) Nothing None None (reply 50 0)
    ∷ entry 0 (Upcall 0) (Asked 51 Yes) (grant (key 0 0 MemKind 0) (key 51 51 MemKind 0)) None None
    ∷ entry 0 (Resume 51) Nothing None None (reply 51 0)
    ∷ entry 0 (Upcall 0) (Asked 52 Yes) (grant (key 0 0 MemKind 0) (key 52 52 MemKind 0)) None None
    ∷ entry 0 (Resume 52) Nothing None None (reply 52 0)
    ∷ entry 0 (Upcall 0) (Asked 53 Yes) (grant (key 0 0 MemKind 0) (key 53 53 MemKind 0)) None None
    ∷ entry 0 (Resume 53) Nothing None None (reply 53 0)
    ∷ entry 0 (Upcall 0) (Asked 54 Yes) (grant (key 0 0 MemKind 0) (key 54 54 MemKind 0)) None None
    ∷ entry 0 (Resume 54) Nothing None None (reply 54 0)
    ∷ entry 0 (Upcall 0) (Asked 55 Yes) (grant (key 0 0 MemKind 0) (key 55 55 MemKind 0)) None None
    ∷ entry 0 (Resume 55) Nothing None None (reply 55 0)
    ∷ entry 0 (Upcall 0) (Asked 56 Yes) (grant (key 0 0 MemKind 0) (key 56 56 MemKind 0)) None None
    ∷ entry 0 (Resume 56) Nothing None None (reply 56 0)
    ∷ entry 0 (Upcall 0) (Asked 57 Yes) (grant (key 0 0 MemKind 0) (key 57 57 MemKind 0)) None None
    ∷ entry 0 (Resume 57) Nothing None None (reply 57 0)
    ∷ entry 0 (Upcall 0) (Asked 58 Yes) (grant (key 0 0 MemKind 0) (key 58 58 MemKind 0)) None None
    ∷ entry 0 (Resume 58) Nothing None None (reply 58 0)
    ∷ entry 0 (Upcall 0) (Asked 59 Yes) (grant (key 0 0 MemKind 0) (key 59 59 MemKind 0)) None None
    ∷ entry 0 (Resume 59) Nothing None None (reply 59 0)
    ∷ entry 0 (Upcall 0) (Asked 60 Yes) (grant (key 0 0 MemKind 0) (key 60 60 MemKind 0)) None None
    ∷ entry 0 (Resume 60) Nothing None None (reply 60 0)
    ∷ entry 0 (Upcall 0) (Asked 61 Yes) (grant (key 0 0 MemKind 0) (key 61 61 MemKind 0)) None None
    ∷ entry 0 (Resume 61) Nothing None None (reply 61 0)
    ∷ entry 0 (Upcall 0) (Asked 62 Yes) (grant (key 0 0 MemKind 0) (key 62 62 MemKind 0)) None None
    ∷ entry 0 (Resume 62) Nothing None None (reply 62 0)
    ∷ entry 0 (Upcall 0) (Asked 63 Yes) (grant (key 0 0 MemKind 0) (key 63 63 MemKind 0)) None None
    ∷ entry 0 (Resume 63) Nothing None None (reply 63 0)
    ∷ entry 0 (Upcall 0) (Asked 64 Yes) (grant (key 0 0 MemKind 0) (key 64 64 MemKind 0)) None None
    ∷ entry 0 (Resume 64) Nothing None None (reply 64 0)
    ∷ entry 0 (Upcall 0) (Asked 65 Yes) (grant (key 0 0 MemKind 0) (key 65 65 MemKind 0)) None None
    ∷ entry 0 (Resume 65) Nothing None None (reply 65 0)
    ∷ entry 0 (Upcall 0) (Asked 66 Yes) (grant (key 0 0 MemKind 0) (key 66 66 MemKind 0)) None None
    ∷ entry 0 (Resume 66) Nothing None None (reply 66 0)
    ∷ entry 0 (Upcall 0) (Asked 67 Yes) (grant (key 0 0 MemKind 0) (key 67 67 MemKind 0)) None None
    ∷ entry 0 (Resume 67) Nothing None None (reply 67 0)
    ∷ entry 0 (Upcall 0) (Asked 68 Yes) (grant (key 0 0 MemKind 0) (key 68 68 MemKind 0)) None None
    ∷ entry 0 (Resume 68) Nothing None None (reply 68 0)
    ∷ entry 0 (Upcall 0) (Asked 69 Yes) (grant (key 0 0 MemKind 0) (key 69 69 MemKind 0)) None None
    ∷ entry 0 (Resume 69) Nothing None None (reply 69 0)
    ∷ entry 0 (Upcall 0) (Asked 70 Yes) (grant (key 0 0 MemKind 0) (key 70 70 MemKind 0)) None None
    ∷ entry 0 (Resume 70) Nothing None None (reply 70 0)
    ∷ entry 0 (Upcall 0) (Asked 71 Yes) (grant (key 0 0 MemKind 0) (key 71 71 MemKind 0)) None None
    ∷ entry 0 (Resume 71) Nothing None None (reply 71 0)
    ∷ entry 0 (Upcall 0) (Asked 72 Yes) (grant (key 0 0 MemKind 0) (key 72 72 MemKind 0)) None None
    ∷ entry 0 (Resume 72) Nothing None None (reply 72 0)
    ∷ entry 0 (Upcall 0) (Asked 73 Yes) (grant (key 0 0 MemKind 0) (key 73 73 MemKind 0)) None None
    ∷ entry 0 (Resume 73) Nothing None None (reply 73 0)
    ∷ entry 0 (Upcall 0) (Asked 74 Yes) (grant (key 0 0 MemKind 0) (key 74 74 MemKind 0)) None None
    ∷ entry 0 (Resume 74) Nothing None None (reply 74 0)
    ∷ entry 0 (Upcall 0) (Asked 75 Yes) (grant (key 0 0 MemKind 0) (key 75 75 MemKind 0)) None None
    ∷ entry 0 (Resume 75) Nothing None None (reply 75 0)
    ∷ entry 0 (Upcall 0) (Asked 76 Yes) (grant (key 0 0 MemKind 0) (key 76 76 MemKind 0)) None None
    ∷ entry 0 (Resume 76) Nothing None None (reply 76 0)
    ∷ entry 0 (Upcall 0) (Asked 77 Yes) (grant (key 0 0 MemKind 0) (key 77 77 MemKind 0)) None None
    ∷ entry 0 (Resume 77) Nothing None None (reply 77 0)
    ∷ entry 0 (Upcall 0) (Asked 78 Yes) (grant (key 0 0 MemKind 0) (key 78 78 MemKind 0)) None None
    ∷ entry 0 (Resume 78) Nothing None None (reply 78 0)
    ∷ entry 0 (Upcall 0) (Asked 79 Yes) (grant (key 0 0 MemKind 0) (key 79 79 MemKind 0)) None None
    ∷ entry 0 (Resume 79) Nothing None None (reply 79 0)
    ∷ entry 0 (Upcall 0) (Asked 80 Yes) (grant (key 0 0 MemKind 0) (key 80 80 MemKind 0)) None None
    ∷ entry 0 (Resume 80) Nothing None None (reply 80 0)
    ∷ entry 0 (Upcall 0) (Asked 81 Yes) (grant (key 0 0 MemKind 0) (key 81 81 MemKind 0)) None None
    ∷ entry 0 (Resume 81) Nothing None None (reply 81 0)
    ∷ entry 0 (Upcall 0) (Asked 82 Yes) (grant (key 0 0 MemKind 0) (key 82 82 MemKind 0)) None None
    ∷ entry 0 (Resume 82) Nothing None None (reply 82 0)
    ∷ entry 0 (Upcall 0) (Asked 83 Yes) (grant (key 0 0 MemKind 0) (key 83 83 MemKind 0)) None None
    ∷ entry 0 (Resume 83) Nothing None None (reply 83 0)
    ∷ entry 0 (Upcall 0) (Asked 84 Yes) (grant (key 0 0 MemKind 0) (key 84 84 MemKind 0)) None None
    ∷ entry 0 (Resume 84) Nothing None None (reply 84 0)
    ∷ entry 0 (Upcall 0) (Asked 85 Yes) (grant (key 0 0 MemKind 0) (key 85 85 MemKind 0)) None None
    ∷ entry 0 (Resume 85) Nothing None None (reply 85 0)
    ∷ entry 0 (Upcall 0) (Asked 86 Yes) (grant (key 0 0 MemKind 0) (key 86 86 MemKind 0)) None None
    ∷ entry 0 (Resume 86) Nothing None None (reply 86 0)
    ∷ entry 0 (Upcall 0) (Asked 87 Yes) (grant (key 0 0 MemKind 0) (key 87 87 MemKind 0)) None None
    ∷ entry 0 (Resume 87) Nothing None None (reply 87 0)
    ∷ entry 0 (Upcall 0) (Asked 88 Yes) (grant (key 0 0 MemKind 0) (key 88 88 MemKind 0)) None None
    ∷ entry 0 (Resume 88) Nothing None None (reply 88 0)
    ∷ entry 0 (Upcall 0) (Asked 89 Yes) (grant (key 0 0 MemKind 0) (key 89 89 MemKind 0)) None None
    ∷ entry 0 (Resume 89) Nothing None None (reply 89 0)
    ∷ entry 0 (Upcall 0) (Asked 90 Yes) (grant (key 0 0 MemKind 0) (key 90 90 MemKind 0)) None None
    ∷ entry 0 (Resume 90) Nothing None None (reply 90 0)
    ∷ entry 0 (Upcall 0) (Asked 91 Yes) (grant (key 0 0 MemKind 0) (key 91 91 MemKind 0)) None None
    ∷ entry 0 (Resume 91) Nothing None None (reply 91 0)
    ∷ entry 0 (Upcall 0) (Asked 92 Yes) (grant (key 0 0 MemKind 0) (key 92 92 MemKind 0)) None None
    ∷ entry 0 (Resume 92) Nothing None None (reply 92 0)
    ∷ entry 0 (Upcall 0) (Asked 93 Yes) (grant (key 0 0 MemKind 0) (key 93 93 MemKind 0)) None None
    ∷ entry 0 (Resume 93) Nothing None None (reply 93 0)
    ∷ entry 0 (Upcall 0) (Asked 94 Yes) (grant (key 0 0 MemKind 0) (key 94 94 MemKind 0)) None None
    ∷ entry 0 (Resume 94) Nothing None None (reply 94 0)
    ∷ entry 0 (Upcall 0) (Asked 95 Yes) (grant (key 0 0 MemKind 0) (key 95 95 MemKind 0)) None None
    ∷ entry 0 (Resume 95) Nothing None None (reply 95 0)
    ∷ entry 0 (Upcall 0) (Asked 96 Yes) (grant (key 0 0 MemKind 0) (key 96 96 MemKind 0)) None None
    ∷ entry 0 (Resume 96) Nothing None None (reply 96 0)
    ∷ entry 0 (Upcall 0) (Asked 97 Yes) (grant (key 0 0 MemKind 0) (key 97 97 MemKind 0)) None None
    ∷ entry 0 (Resume 97) Nothing None None (reply 97 0)
    ∷ entry 0 (Upcall 0) (Asked 98 Yes) (grant (key 0 0 MemKind 0) (key 98 98 MemKind 0)) None None
    ∷ entry 0 (Resume 98) Nothing None None (reply 98 0)
    ∷ entry 0 (Upcall 0) (Asked 99 Yes) (grant (key 0 0 MemKind 0) (key 99 99 MemKind 0)) None None
    ∷ entry 0 (Resume 99) Nothing None None (reply 99 0)
    ∷ entry 0 (Upcall 0) (Asked 100 Yes) (grant (key 0 0 MemKind 0) (key 100 100 MemKind 0)) None None
    ∷ entry 0 (Resume 100) Nothing None None (reply 100 0)
    ∷ entry 0 (Upcall 0) (Asked 101 Yes) (grant (key 0 0 MemKind 0) (key 101 101 MemKind 0)) None None
    ∷ entry 0 (Resume 101) Nothing None None (reply 101 0)
    ∷ entry 0 (Upcall 0) (Asked 102 Yes) (grant (key 0 0 MemKind 0) (key 102 102 MemKind 0)) None None
    ∷ entry 0 (Resume 102) Nothing None None (reply 102 0)
    ∷ entry 0 (Upcall 0) (Asked 103 Yes) (grant (key 0 0 MemKind 0) (key 103 103 MemKind 0)) None None
    ∷ entry 0 (Resume 103) Nothing None None (reply 103 0)
    ∷ entry 0 (Upcall 0) (Asked 104 Yes) (grant (key 0 0 MemKind 0) (key 104 104 MemKind 0)) None None
    ∷ entry 0 (Resume 104) Nothing None None (reply 104 0)
    ∷ entry 0 (Upcall 0) (Asked 105 Yes) (grant (key 0 0 MemKind 0) (key 105 105 MemKind 0)) None None
    ∷ entry 0 (Resume 105) Nothing None None (reply 105 0)
    ∷ entry 0 (Upcall 0) (Asked 106 Yes) (grant (key 0 0 MemKind 0) (key 106 106 MemKind 0)) None None
    ∷ entry 0 (Resume 106) Nothing None None (reply 106 0)
    ∷ entry 0 (Upcall 0) (Asked 107 Yes) (grant (key 0 0 MemKind 0) (key 107 107 MemKind 0)) None None
    ∷ entry 0 (Resume 107) Nothing None None (reply 107 0)
    ∷ entry 0 (Upcall 0) (Asked 108 Yes) (grant (key 0 0 MemKind 0) (key 108 108 MemKind 0)) None None
    ∷ entry 0 (Resume 108) Nothing None None (reply 108 0)
    ∷ entry 0 (Upcall 0) (Asked 109 Yes) (grant (key 0 0 MemKind 0) (key 109 109 MemKind 0)) None None
    ∷ entry 0 (Resume 109) Nothing None None (reply 109 0)
    ∷ entry 0 (Upcall 0) (Asked 110 Yes) (grant (key 0 0 MemKind 0) (key 110 110 MemKind 0)) None None
    ∷ entry 0 (Resume 110) Nothing None None (reply 110 0)
    ∷ entry 0 (Upcall 0) (Asked 111 Yes) (grant (key 0 0 MemKind 0) (key 111 111 MemKind 0)) None None
    ∷ entry 0 (Resume 111) Nothing None None (reply 111 0)
    ∷ entry 0 (Upcall 0) (Asked 112 Yes) (grant (key 0 0 MemKind 0) (key 112 112 MemKind 0)) None None
    ∷ entry 0 (Resume 112) Nothing None None (reply 112 0)
    ∷ entry 0 (Upcall 0) (Asked 113 Yes) (grant (key 0 0 MemKind 0) (key 113 113 MemKind 0)) None None
    ∷ entry 0 (Resume 113) Nothing None None (reply 113 0)
    ∷ entry 0 (Upcall 0) (Asked 114 Yes) (grant (key 0 0 MemKind 0) (key 114 114 MemKind 0)) None None
    ∷ entry 0 (Resume 114) Nothing None None (reply 114 0)
    ∷ entry 0 (Upcall 0) (Asked 115 Yes) (grant (key 0 0 MemKind 0) (key 115 115 MemKind 0)) None None
    ∷ entry 0 (Resume 115) Nothing None None (reply 115 0)
    ∷ entry 0 (Upcall 0) (Asked 116 Yes) (grant (key 0 0 MemKind 0) (key 116 116 MemKind 0)) None None
    ∷ entry 0 (Resume 116) Nothing None None (reply 116 0)
    ∷ entry 0 (Upcall 0) (Asked 117 Yes) (grant (key 0 0 MemKind 0) (key 117 117 MemKind 0)) None None
    ∷ entry 0 (Resume 117) Nothing None None (reply 117 0)
    ∷ entry 0 (Upcall 0) (Asked 118 Yes) (grant (key 0 0 MemKind 0) (key 118 118 MemKind 0)) None None
    ∷ entry 0 (Resume 118) Nothing None None (reply 118 0)
    ∷ entry 0 (Upcall 0) (Asked 119 Yes) (grant (key 0 0 MemKind 0) (key 119 119 MemKind 0)) None None
    ∷ entry 0 (Resume 119) Nothing None None (reply 119 0)
    ∷ entry 0 (Upcall 0) (Asked 120 Yes) (grant (key 0 0 MemKind 0) (key 120 120 MemKind 0)) None None
    ∷ entry 0 (Resume 120) Nothing None None (reply 120 0)
    ∷ entry 0 (Upcall 0) (Asked 121 Yes) (grant (key 0 0 MemKind 0) (key 121 121 MemKind 0)) None None
    ∷ entry 0 (Resume 121) Nothing None None (reply 121 0)
    ∷ entry 0 (Upcall 0) (Asked 122 Yes) (grant (key 0 0 MemKind 0) (key 122 122 MemKind 0)) None None
    ∷ entry 0 (Resume 122) Nothing None None (reply 122 0)
    ∷ entry 0 (Upcall 0) (Asked 123 Yes) (grant (key 0 0 MemKind 0) (key 123 123 MemKind 0)) None None
    ∷ entry 0 (Resume 123) Nothing None None (reply 123 0)
    ∷ entry 0 (Upcall 0) (Asked 124 Yes) (grant (key 0 0 MemKind 0) (key 124 124 MemKind 0)) None None
    ∷ entry 0 (Resume 124) Nothing None None (reply 124 0)
    ∷ entry 0 (Upcall 0) (Asked 125 Yes) (grant (key 0 0 MemKind 0) (key 125 125 MemKind 0)) None None
    ∷ entry 0 (Resume 125) Nothing None None (reply 125 0)
    ∷ entry 0 (Upcall 0) (Asked 126 Yes) (grant (key 0 0 MemKind 0) (key 126 126 MemKind 0)) None None
    ∷ entry 0 (Resume 126) Nothing None None (reply 126 0)
    ∷ entry 0 (Upcall 0) (Asked 127 Yes) (grant (key 0 0 MemKind 0) (key 127 127 MemKind 0)) None None
    ∷ entry 0 (Resume 127) Nothing None None (reply 127 0)
    ∷ []

unfoldable pub outcome : Played
outcome = record {
  entries = journal;
  all_enabled = true;
  left = [];
  made = 128;
  cut = 0;
  held = (key 0 0 MemKind 0, 0) ∷ (key 1 1 MemKind 0, 0) ∷ (key 2 2 MemKind 0, 0) ∷ (key 3 3 MemKind 0, 0)
      ∷ (key 4 4 MemKind 0, 0) ∷ (key 5 5 MemKind 0, 0) ∷ (key 6 6 MemKind 0, 0) ∷ (key 7 7 MemKind 0, 0)
      ∷ (key 8 8 MemKind 0, 0) ∷ (key 9 9 MemKind 0, 0) ∷ (key 10 10 MemKind 0, 0) ∷ (key 11 11 MemKind 0, 0)
      ∷ (key 12 12 MemKind 0, 0) ∷ (key 13 13 MemKind 0, 0) ∷ (key 14 14 MemKind 0, 0) ∷ (key 15 15 MemKind 0, 0)
      ∷ (key 16 16 MemKind 0, 0) ∷ (key 17 17 MemKind 0, 0) ∷ (key 18 18 MemKind 0, 0) ∷ (key 19 19 MemKind 0, 0)
      ∷ (key 20 20 MemKind 0, 0) ∷ (key 21 21 MemKind 0, 0) ∷ (key 22 22 MemKind 0, 0) ∷ (key 23 23 MemKind 0, 0)
      ∷ (key 24 24 MemKind 0, 0) ∷ (key 25 25 MemKind 0, 0) ∷ (key 26 26 MemKind 0, 0) ∷ (key 27 27 MemKind 0, 0)
      ∷ (key 28 28 MemKind 0, 0) ∷ (key 29 29 MemKind 0, 0) ∷ (key 30 30 MemKind 0, 0) ∷ (key 31 31 MemKind 0, 0)
      ∷ (key 32 32 MemKind 0, 0) ∷ (key 33 33 MemKind 0, 0) ∷ (key 34 34 MemKind 0, 0) ∷ (key 35 35 MemKind 0, 0)
      ∷ (key 36 36 MemKind 0, 0) ∷ (key 37 37 MemKind 0, 0) ∷ (key 38 38 MemKind 0, 0) ∷ (key 39 39 MemKind 0, 0)
      ∷ (key 40 40 MemKind 0, 0) ∷ (key 41 41 MemKind 0, 0) ∷ (key 42 42 MemKind 0, 0) ∷ (key 43 43 MemKind 0, 0)
      ∷ (key 44 44 MemKind 0, 0) ∷ (key 45 45 MemKind 0, 0) ∷ (key 46 46 MemKind 0, 0) ∷ (key 47 47 MemKind 0, 0)
      ∷ (key 48 48 MemKind 0, 0) ∷ (key 49 49 MemKind 0, 0) ∷ (key 50 50 MemKind 0, 0) ∷ (key 51 51 MemKind 0, 0)
      ∷ (key 52 52 MemKind 0, 0) ∷ (key 53 53 MemKind 0, 0) ∷ (key 54 54 MemKind 0, 0) ∷ (key 55 55 MemKind 0, 0)
      ∷ (key 56 56 MemKind 0, 0) ∷ (key 57 57 MemKind 0, 0) ∷ (key 58 58 MemKind 0, 0) ∷ (key 59 59 MemKind 0, 0)
      ∷ (key 60 60 MemKind 0, 0) ∷ (key 61 61 MemKind 0, 0) ∷ (key 62 62 MemKind 0, 0) ∷ (key 63 63 MemKind 0, 0)
      ∷ (key 64 64 MemKind 0, 0) ∷ (key 65 65 MemKind 0, 0) ∷ (key 66 66 MemKind 0, 0) ∷ (key 67 67 MemKind 0, 0)
      ∷ (key 68 68 MemKind 0, 0) ∷ (key 69 69 MemKind 0, 0) ∷ (key 70 70 MemKind 0, 0) ∷ (key 71 71 MemKind 0, 0)
      ∷ (key 72 72 MemKind 0, 0) ∷ (key 73 73 MemKind 0, 0) ∷ (key 74 74 MemKind 0, 0) ∷ (key 75 75 MemKind 0, 0)
      ∷ (key 76 76 MemKind 0, 0) ∷ (key 77 77 MemKind 0, 0) ∷ (key 78 78 MemKind 0, 0) ∷ (key 79 79 MemKind 0, 0)
      ∷ (key 80 80 MemKind 0, 0) ∷ (key 81 81 MemKind 0, 0) ∷ (key 82 82 MemKind 0, 0) ∷ (key 83 83 MemKind 0, 0)
      ∷ (key 84 84 MemKind 0, 0) ∷ (key 85 85 MemKind 0, 0) ∷ (key 86 86 MemKind 0, 0) ∷ (key 87 87 MemKind 0, 0)
      ∷ (key 88 88 MemKind 0, 0) ∷ (key 89 89 MemKind 0, 0) ∷ (key 90 90 MemKind 0, 0) ∷ (key 91 91 MemKind 0, 0)
      ∷ (key 92 92 MemKind 0, 0) ∷ (key 93 93 MemKind 0, 0) ∷ (key 94 94 MemKind 0, 0) ∷ (key 95 95 MemKind 0, 0)
      ∷ (key 96 96 MemKind 0, 0) ∷ (key 97 97 MemKind 0, 0) ∷ (key 98 98 MemKind 0, 0) ∷ (key 99 99 MemKind 0, 0)
      ∷ (key 100 100 MemKind 0, 0) ∷ (key 101 101 MemKind 0, 0) ∷ (key 102 102 MemKind 0, 0) ∷ (
        key 103 103 MemKind 0,
        0,
      ) ∷ (key 104 104 MemKind 0, 0) ∷ (key 105 105 MemKind 0, 0) ∷ (key 106 106 MemKind 0, 0)
      ∷ (key 107 107 MemKind 0, 0) ∷ (key 108 108 MemKind 0, 0) ∷ (key 109 109 MemKind 0, 0) ∷ (
        key 110 110 MemKind 0,
        0,
      ) ∷ (key 111 111 MemKind 0, 0) ∷ (key 112 112 MemKind 0, 0) ∷ (key 113 113 MemKind 0, 0)
      ∷ (key 114 114 MemKind 0, 0) ∷ (key 115 115 MemKind 0, 0) ∷ (key 116 116 MemKind 0, 0) ∷ (
        key 117 117 MemKind 0,
        0,
      ) ∷ (key 118 118 MemKind 0, 0) ∷ (key 119 119 MemKind 0, 0) ∷ (key 120 120 MemKind 0, 0)
      ∷ (key 121 121 MemKind 0, 0) ∷ (key 122 122 MemKind 0, 0) ∷ (key 123 123 MemKind 0, 0) ∷ (
        key 124 124 MemKind 0,
        0,
      ) ∷ (key 125 125 MemKind 0, 0) ∷ (key 126 126 MemKind 0, 0) ∷ (key 127 127 MemKind 0, 0) ∷ [];
  is_forest = true;
  is_linked = true;
  is_clean = true;
}

abbrev pub asks_of_all_others : Type 0
asks_of_all_others = played trace events ≡ outcome

unfoldable pub waiting : List Event
waiting =
    event 0 (Upcall 0)
    ∷ []

-- then exactly these are enabled
abbrev pub waits : Type 0
waits = enabled_after trace first_events ≡ waiting
