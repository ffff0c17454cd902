pub mod SoundWorlds
